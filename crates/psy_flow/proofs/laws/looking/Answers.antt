-- What is left of the proof of `laws::looking`.
use Rattle.psy_flow.proofs.Silent.{told}
use Rattle.psy_flow.proofs.laws.looking.Goals as goal

pub returns : goal.returns
returns c unit number agent point variable its = told unit number agent (c.known.ensures unit number agent its) point variable
