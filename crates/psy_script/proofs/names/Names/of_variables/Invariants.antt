-- What each loop of `names::Names::of_variables` keeps.
use Rattle.std.proofs.Common.{◌≡◌, map, take}
use Rattle.psy_script.proofs.names.Names.of_variables.Given as goal

-- The names so far
abbrev pub invariant-loop-variable : goal.invariant-loop-variable
invariant-loop-variable l = l.names ≡ map (λ v. v.name) (take l.variable-index l.unit.variables)
