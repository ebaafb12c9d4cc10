-- What is left of the proof of `tests::ready::pick_turned`.
use Rattle.std.proofs.Common.{refl, length}
use Rattle.psy_ground_trials.proofs.Orders.{lists_two}
use Rattle.psy_ground_trials.proofs.tests.ready.pick_turned.Goals as goal

pub pick-requires : goal.pick-requires
pick-requires c = lists_two 1 0 refl (length c.args.ready.now) c.requires
