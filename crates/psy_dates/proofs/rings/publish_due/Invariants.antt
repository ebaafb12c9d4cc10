-- What each loop of `rings::publish_due` keeps.
use Rattle.std.proofs.Common.{◌≡◌, ℕ, ◌<◌, ◌≤◌, [], List, ℤ, Some, slice_get}
use Rattle.psy_dates.specs.Plans.{system_of}
use Rattle.psy_dates.specs.Publications.{ring_then}
use Rattle.psy_dates.proofs.rings.publish_due.Given as goal

abbrev pub invariant-rings : goal.invariant-rings
invariant-rings l = record {
  below : (variable : ℕ) (ring : List ℤ) → variable < l.variable → slice_get l.fn.rings variable ≡ Some ring → slice_get l.rings variable ≡ Some (ring_then (system_of l.plan l.inputs.lists (λ agent. [])) l.committed l.date variable ring);
  above : (variable : ℕ) → l.variable ≤ variable → slice_get l.rings variable ≡ slice_get l.fn.rings variable;
}
