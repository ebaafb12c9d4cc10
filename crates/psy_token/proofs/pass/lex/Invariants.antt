-- What each loop of `pass::lex` keeps.
use Rattle.std.proofs.Common.{◌-◌, length}
use Rattle.psy_token.proofs.Texts.{State}
use Rattle.psy_token.proofs.pass.lex.Given as goal

abbrev pub invariant-loop-at : goal.invariant-loop-at
invariant-loop-at l = State l.text l.at l.tokens

abbrev pub decreases-loop-at : goal.decreases-loop-at
decreases-loop-at l = length l.text - l.at
