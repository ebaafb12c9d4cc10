-- What each loop of `ready::first_place` keeps.
use Rattle.psy_ready.proofs.Places.{IsLeast}
use Rattle.psy_ready.proofs.ready.first_place.Given as goal

abbrev pub invariant-loop-pending : goal.invariant-loop-pending
invariant-loop-pending l = IsLeast l.due l.order l.pending-index l.least
