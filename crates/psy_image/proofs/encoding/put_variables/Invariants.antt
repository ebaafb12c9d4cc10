-- What the loop of `encoding::put_variables` keeps.
use Rattle.std.proofs.Common.{◌≡◌, ◌++◌, length, take}
use Rattle.std.specs.List.{flat_map}
use Rattle.psy_image.specs.Bytes.{variable_bytes, number_bytes}
use Rattle.psy_image.proofs.encoding.put_variables.Given as goal

abbrev pub invariant-variables : goal.invariant-variables
invariant-variables l = l.out.items ≡ (l.fn.out.items ++ number_bytes (length l.variables)) ++ flat_map variable_bytes (take l.variable-index l.variables)
