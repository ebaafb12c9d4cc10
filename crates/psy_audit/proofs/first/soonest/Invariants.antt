-- What each loop of `first::soonest` keeps.
use Rattle.std.proofs.Common.{◌≡◌, take}
use Rattle.psy_audit.specs.Turns.{soonest_of}
use Rattle.psy_audit.specs.Waits.{pending_in}
use Rattle.psy_audit.proofs.first.soonest.Given as goal

-- The first of those so far
abbrev pub invariant-waits : goal.invariant-waits
invariant-waits l = l.first ≡ soonest_of (pending_in l.cycle (take l.wait-index l.waits))
