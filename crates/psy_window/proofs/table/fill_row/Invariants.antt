-- What each loop of `table::fill_row` keeps.
use Rattle.psy_window.specs.Table.{IsRow}
use Rattle.psy_window.proofs.table.fill_row.Given as goal

abbrev pub invariant-loop-at : goal.invariant-loop-at
invariant-loop-at l = IsRow l.edges l.at l.layout.nodes l.span l.within l.row
