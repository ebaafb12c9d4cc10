-- What is left of the proof of `greatest::greatest_cell`.
use Rattle.std.proofs.Common.{ℕ}
use Rattle.psy_window.proofs.Tops.{top_more}
use Rattle.psy_window.proofs.greatest.greatest_cell.Goals as goal

pub loop-n-preserved : goal.loop-n-preserved
loop-n-preserved c = top_more ℕ (λ n. n) c.args.row.now c.loop-n.n-index c.loop-n.greatest c.max-greatest.result 0 c.loop-n-test.true c.max-greatest.ensures c.loop-n.invariant
