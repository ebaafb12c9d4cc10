-- What is left of the proof of `encoding::put_variable`.
use Rattle.psy_image.proofs.Written.{adds_4}
use Rattle.psy_image.proofs.encoding.put_variable.Goals as goal

pub returns : goal.returns
returns c = adds_4 _ _ _ _ _ _ _ _ _ c.in_ok-put_name.ensures c.in_ok-put_owner.ensures c.in_ok-put_number.ensures c.in_ok-put_first.ensures
