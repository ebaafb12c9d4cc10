-- What the loop of `spelling::put_values` keeps.
use Rattle.std.proofs.Common.{◌≡◌, ◌++◌, length, take}
use Rattle.std.specs.List.{flat_map}
use Rattle.psy_image.specs.Bytes.{value_bytes, number_bytes}
use Rattle.psy_image.proofs.spelling.put_values.Given as goal

abbrev pub invariant-values : goal.invariant-values
invariant-values l = l.out.items ≡ (l.fn.out.items ++ number_bytes (length l.values)) ++ flat_map value_bytes (take l.value-index l.values)
