-- What is left of the proof of `encoding::put_stream`.
use Rattle.psy_image.proofs.Written.{adds_3}
use Rattle.psy_image.proofs.encoding.put_stream.Goals as goal

pub returns : goal.returns
returns c = adds_3 _ _ _ _ _ _ _ c.in_ok-put_name.ensures c.in_ok-put_number.ensures c.in_ok-put_two.ensures
