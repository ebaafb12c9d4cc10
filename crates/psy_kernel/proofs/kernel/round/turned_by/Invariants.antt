-- What each loop of `kernel::round::turned_by` keeps.
use Rattle.std.proofs.Common.{◌≡◌, ℕ, ◌-◌, ◌<◌, ◌≤◌, length, Some}
use Rattle.std.specs.List.{slice_get}
use Rattle.psy_history.specs.declared.told.Round.{Round}
use Rattle.psy_kernel.proofs.kernel.round.turned_by.Given as goal

abbrev pub invariant-rounds : goal.invariant-rounds
invariant-rounds l = record {
  within : l.passed ≤ length l.rounds;
  come : (place : ℕ) (r : Round) → slice_get l.rounds place ≡ Some r → place < l.passed → r.cycle ≤ l.next;
}

abbrev pub decreases-rounds : goal.decreases-rounds
decreases-rounds l = length l.rounds - l.passed
