-- What each loop of `delays::+stmt` keeps.
use Rattle.std.proofs.Common.{◌≡◌, take}
use Rattle.psy_meaning.specs.Sendings.{sendings_in}
use Rattle.psy_flow.specs.Listed.{delay_among}
use Rattle.psy_flow.proofs.delays.+stmt.Given as goal

abbrev pub invariant-delay_in-loop-stmt : goal.invariant-delay_in-loop-stmt
invariant-delay_in-loop-stmt l = l.greatest ≡ delay_among l.unit l.stream (sendings_in (take l.stmt-index l.stmts))
