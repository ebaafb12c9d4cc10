-- What each loop of `shared::first_rings` keeps.
use Rattle.std.proofs.Common.{◌≡◌, ℕ, ◌<◌, Some, get_or, length, map, pos, replicate, slice_get}
use Rattle.psy_dates.proofs.shared.first_rings.Given as goal

abbrev pub invariant-variables : goal.invariant-variables
invariant-variables l = record {
  count : length l.rings.items ≡ l.variable;
  filled : (variable : ℕ) → variable < l.variable → slice_get l.rings.items variable ≡ Some (replicate (get_or l.sizes variable 0) (get_or (map (λ v. v.init) l.variables) variable (pos 0)));
}
