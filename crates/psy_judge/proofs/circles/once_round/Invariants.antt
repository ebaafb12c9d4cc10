-- What each loop of `circles::once_round` keeps.
use Rattle.psy_judge.specs.Climbing.{LeadsTo}
use Rattle.psy_judge.proofs.circles.once_round.Given as goal

abbrev pub invariant-places : goal.invariant-places
invariant-places l = LeadsTo l.code l.place l.height l.stand
