-- What is left of the proof of `laws::front_of_whole`.
use Rattle.psy_export.proofs.Whole.{front_of_whole}
use Rattle.psy_export.proofs.laws.front_of_whole.Goals as goal

pub returns : goal.returns
returns c = front_of_whole c.one_front.ensures
