-- What each loop of `texts::+looks` keeps.
use Rattle.std.proofs.Common.{◌≡◌, take}
use Rattle.psy_flow.specs.Texts.{looks_in, marked_at}
use Rattle.psy_flow.proofs.texts.+looks.Given as goal

abbrev pub invariant-mark_looks-loop-stmt : goal.invariant-mark_looks-loop-stmt
invariant-mark_looks-loop-stmt l = l.looked ≡ marked_at l.fn.looked (looks_in (take l.stmt-index l.stmts))
