-- What each loop of `silent::Silencing::of` keeps.
use Rattle.std.proofs.Common.{◌≡◌, map, take}
use Rattle.std.specs.List.{flat_map}
use Rattle.psy_match.specs.Silences.{kept_of, owning_of}
use Rattle.psy_match.proofs.silent.Silencing.of.Given as goal

-- The variables so far
abbrev pub invariant-loop-variable : goal.invariant-loop-variable
invariant-loop-variable l = map kept_of l.owned.items ≡ flat_map (owning_of l.unit) (take l.variable-index l.unit.variables)
