-- What each loop of `texts::+sends` keeps.
use Rattle.std.proofs.Common.{◌≡◌, take}
use Rattle.psy_flow.specs.Texts.{marked_at, streams_in}
use Rattle.psy_flow.proofs.texts.+sends.Given as goal

abbrev pub invariant-mark_sends-loop-stmt : goal.invariant-mark_sends-loop-stmt
invariant-mark_sends-loop-stmt l = l.sent ≡ marked_at l.fn.sent (streams_in (take l.stmt-index l.stmts))
