-- What each loop of `resume::values_of` keeps.
use Rattle.std.proofs.Common.{◌≡◌, ℕ, ◌<◌, Some, length, slice_get}
use Rattle.psy_tree.specs.Parts.{variable_at}
use Rattle.psy_dates.specs.Beginnings.{committed_of}
use Rattle.psy_dates.proofs.resume.values_of.Given as goal

abbrev pub invariant-variables : goal.invariant-variables
invariant-variables l = record {
  count : length l.values.items ≡ l.variable;
  committed : (variable : ℕ) → variable < l.variable → slice_get l.values.items variable ≡ Some (committed_of l.plan l.opening variable (variable_at l.plan.unit variable).owner);
}
