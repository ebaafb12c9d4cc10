-- What each loop of `numbers::numbers` keeps.
use Rattle.std.proofs.Common.{◌≡◌, ℕ, ◌<◌, length, Some}
use Rattle.std.specs.Prelude.{slice_get}
use Rattle.psy_rules.specs.Numbering.{before_at}
use Rattle.psy_rules.proofs.numbers.numbers.Given as goal

abbrev pub invariant-loop-item : goal.invariant-loop-item
invariant-loop-item l = record {
  length : length l.numbers.items ≡ l.item-index;
  each : (k : ℕ) → k < l.item-index → slice_get l.numbers.items k ≡ Some (before_at l.items k);
  before : l.before ≡ before_at l.items l.item-index;
}
