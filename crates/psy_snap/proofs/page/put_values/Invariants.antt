-- What the loop of `page::put_values` keeps.
use Rattle.std.proofs.Common.{◌≡◌, ◌++◌, take}
use Rattle.std.specs.List.{flat_map}
use Rattle.psy_snap.specs.Bytes.{value_bytes}
use Rattle.psy_snap.proofs.page.put_values.Given as goal

abbrev pub invariant-values : goal.invariant-values
invariant-values l = l.out ≡ l.fn.out ++ flat_map value_bytes (take l.value-index l.values)
