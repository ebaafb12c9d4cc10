-- What each loop of `resume::rings_of` keeps.
use Rattle.std.proofs.Common.{◌≡◌, ℕ, ◌<◌, Some, length, slice_get}
use Rattle.psy_dates.specs.declared.opening.VarOpening.{VarOpening}
use Rattle.psy_dates.proofs.resume.rings_of.Given as goal

abbrev pub invariant-variables : goal.invariant-variables
invariant-variables l = record {
  count : length l.rings.items ≡ l.variable;
  values : (variable : ℕ) (known : VarOpening) → variable < l.variable → slice_get l.variables variable ≡ Some known → slice_get l.rings.items variable ≡ Some known.values;
}
