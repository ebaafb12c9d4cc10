-- What each loop of `greatest::greatest_behind` keeps.
use Rattle.psy_window.specs.Table.{IsTop, behind}
use Rattle.psy_window.proofs.greatest.greatest_behind.Given as goal

abbrev pub invariant-loop-edge : goal.invariant-loop-edge
invariant-loop-edge l = IsTop (behind l.row) l.edges l.edge-index l.greatest
