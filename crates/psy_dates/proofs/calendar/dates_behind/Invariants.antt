-- What each loop of `calendar::dates_behind` keeps.
use Rattle.std.proofs.Common.{◌≡◌, ℕ, ◌+◌, ◌<◌, Some, length, slice_get}
use Rattle.psy_clock.specs.declared.clock.Clock.{Clock}
use Rattle.psy_clock.specs.Dates.{from_date}
use Rattle.psy_dates.proofs.calendar.dates_behind.Given as goal

abbrev pub invariant-clocks : goal.invariant-clocks
invariant-clocks l = record {
  count : length l.nexts.items ≡ l.clock;
  nexts : (clock : ℕ) (known : Clock) → clock < l.clock → slice_get l.clocks clock ≡ Some known → slice_get l.nexts.items clock ≡ Some (from_date known (l.date + 1) 0);
}
