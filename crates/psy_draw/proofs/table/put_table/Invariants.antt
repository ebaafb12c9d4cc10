-- What each loop of `table::put_table` keeps.
use Rattle.std.proofs.Common.{◌≡◌, ◌+◌, ◌*◌, ◌≤◌, ◌++◌, drop}
use Rattle.psy_draw.specs.declared.table.TheConstants.{HEADS}
use Rattle.psy_draw.specs.Showing.{rows_text}
use Rattle.psy_draw.proofs.table.put_table.Given as goal

-- The rows so far go on to all of them.
abbrev pub invariant-rows : goal.invariant-rows
invariant-rows l = record {
  told : l.page ++ rows_text l.y l.ends.first l.ends.second (drop l.row-index l.rows) ≡ l.initial.page ++ rows_text HEADS l.ends.first l.ends.second l.rows;
  low : l.y ≤ 12 + 17 * l.row-index;
}
