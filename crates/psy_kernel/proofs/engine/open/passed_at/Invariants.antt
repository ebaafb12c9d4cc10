-- What each loop of `engine::open::passed_at` keeps.
use Rattle.std.proofs.Common.{◌≡◌, ℕ, ◌-◌, ◌<◌, ◌≤◌, length, Some}
use Rattle.std.specs.List.{slice_get}
use Rattle.psy_history.specs.declared.told.Order.{Order}
use Rattle.psy_kernel.proofs.engine.open.passed_at.Given as goal

abbrev pub invariant-orders : goal.invariant-orders
invariant-orders l = record {
  within : l.passed ≤ length l.orders;
  come : (place : ℕ) (o : Order) → slice_get l.orders place ≡ Some o → place < l.passed → o.cycle ≤ l.cycle;
}

abbrev pub decreases-orders : goal.decreases-orders
decreases-orders l = length l.orders - l.passed
