-- What is left of the proof of `laws::remainders`.
use Rattle.std.proofs.Common.{sym}
use Rattle.std.proofs.lemmas.Int.{quot-rem, rem_below}
use Rattle.psy_arith.proofs.laws.remainders.Goals as goal

pub returns-clause-left : goal.returns-clause-left
returns-clause-left c = λ a b. sym (quot-rem a b)

pub returns-clause-below : goal.returns-clause-below
returns-clause-below c = rem_below
