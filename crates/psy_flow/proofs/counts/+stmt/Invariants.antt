-- What each loop of `counts::+stmt` keeps.
use Rattle.std.proofs.Common.{◌≡◌, take}
use Rattle.psy_flow.specs.Tops.{called, capped_tops, stmts_tops}
use Rattle.psy_flow.proofs.counts.+stmt.Given as goal

abbrev pub invariant-tops_of_stmts-loop-stmt : goal.invariant-tops_of_stmts-loop-stmt
invariant-tops_of_stmts-loop-stmt l = l.tops ≡ capped_tops l.gauge (stmts_tops l.gauge l.wanted (called l.row) (take l.stmt-index l.stmts))
