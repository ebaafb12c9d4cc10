-- What the loop of `encoding::put_functions` keeps.
use Rattle.std.proofs.Common.{◌≡◌, ◌++◌, length, take}
use Rattle.std.specs.List.{flat_map}
use Rattle.psy_image.specs.Bytes.{function_bytes, number_bytes}
use Rattle.psy_image.proofs.encoding.put_functions.Given as goal

abbrev pub invariant-functions : goal.invariant-functions
invariant-functions l = l.out.items ≡ (l.fn.out.items ++ number_bytes (length l.functions)) ++ flat_map function_bytes (take l.function-index l.functions)
