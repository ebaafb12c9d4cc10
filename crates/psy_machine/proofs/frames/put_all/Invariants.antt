-- What each loop of `frames::put_all` keeps.
use Rattle.std.proofs.Common.{◌≡◌, ◌++◌, take, vec_capacity}
use Rattle.psy_machine.proofs.frames.put_all.Given as goal

-- The values that were put stand behind the cells.
abbrev pub invariant-loop-value : goal.invariant-loop-value
invariant-loop-value l = record {
  items : l.cells.items ≡ l.fn.cells.items ++ take l.value-index l.values;
  capacity : vec_capacity l.cells ≡ vec_capacity l.fn.cells;
}
