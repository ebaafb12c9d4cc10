-- What the loop of `spelling::put_variables` keeps.
use Rattle.std.proofs.Common.{◌≡◌, ◌++◌, take}
use Rattle.std.specs.List.{flat_map}
use Rattle.psy_snap.specs.Bytes.{variable_bytes}
use Rattle.psy_snap.proofs.spelling.put_variables.Given as goal

abbrev pub invariant-variables : goal.invariant-variables
invariant-variables l = l.out ≡ l.fn.out ++ flat_map variable_bytes (take l.variable-index l.variables)
