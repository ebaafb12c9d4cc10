-- What each loop of `column::columns` keeps.
use Rattle.std.proofs.Common.{◌≡◌, ◌*◌, ◌≤◌, take}
use Rattle.psy_show.specs.Columns.{columns}
use Rattle.psy_show.proofs.column.columns.Given as goal

abbrev pub invariant-loop-c : goal.invariant-loop-c
invariant-loop-c l = record {
  value : l.columns ≡ columns (take l.c-index l.chars);
  small : l.columns ≤ 4 * l.c-index;
}
