-- What the loop of `page::put_cells` keeps.
use Rattle.std.proofs.Common.{◌≡◌, ◌++◌, take}
use Rattle.std.specs.List.{flat_map}
use Rattle.psy_snap.specs.Bytes.{cell_bytes}
use Rattle.psy_snap.proofs.page.put_cells.Given as goal

abbrev pub invariant-cells : goal.invariant-cells
invariant-cells l = l.out ≡ l.fn.out ++ flat_map cell_bytes (take l.cell-index l.cells)
