-- What is left of the proof of `circles::once_round`.
use Rattle.psy_judge.specs.Climbing.{here}
use Rattle.psy_judge.proofs.circles.once_round.Goals as goal

pub places-init : goal.places-init
places-init c = c.step_from-stand.ensures c.args.place c.args.height here

pub places-preserved : goal.places-preserved
places-preserved c = c.step_on-stand.ensures c.args.place c.args.height c.places.invariant
