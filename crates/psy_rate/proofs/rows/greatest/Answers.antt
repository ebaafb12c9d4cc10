-- What is left of the proof of `rows::greatest`.
use Rattle.psy_rate.proofs.Potentials.{greatest_more}
use Rattle.psy_rate.proofs.rows.greatest.Goals as goal

pub loop-cell-preserved : goal.loop-cell-preserved
loop-cell-preserved c = greatest_more c.args.row.now c.loop-cell.cell-index c.loop-cell.greatest c.max-greatest.result c.loop-cell-test.true c.max-greatest.ensures c.loop-cell.invariant
