-- What is left of the proof of `laws::one_line`.
use Rattle.psy_notes.proofs.OneLine.{one_line}
use Rattle.psy_notes.proofs.laws.one_line.Goals as goal

pub returns : goal.returns
returns c = λ line some other is tells. one_line line some other is tells
