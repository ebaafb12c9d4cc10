-- What each loop of `greatest::greatest_cell` keeps.
use Rattle.psy_window.specs.Table.{IsTop}
use Rattle.psy_window.proofs.greatest.greatest_cell.Given as goal

abbrev pub invariant-loop-n : goal.invariant-loop-n
invariant-loop-n l = IsTop (λ n. n) l.row l.n-index l.greatest
