-- What each loop of `rows::greatest` keeps.
use Rattle.psy_rate.specs.Rows.{IsGreatest}
use Rattle.psy_rate.proofs.rows.greatest.Given as goal

abbrev pub invariant-loop-cell : goal.invariant-loop-cell
invariant-loop-cell l = IsGreatest l.row l.cell-index l.greatest
