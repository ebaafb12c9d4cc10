-- What is left of the proof of `laws::heights`.
use Rattle.psy_code.proofs.Heights.{heights}
use Rattle.psy_code.proofs.laws.heights.Goals as goal

pub returns : goal.returns
returns c code agent view i m n r = heights code agent view m i n r
