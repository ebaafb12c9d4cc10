-- What each loop of `calendar::pass_all` keeps.
use Rattle.std.proofs.Common.{◌≡◌, ℕ, ◌+◌, ◌<◌, ◌≤◌, Some, slice_get}
use Rattle.psy_clock.specs.declared.clock.Clock.{Clock}
use Rattle.psy_clock.specs.Dates.{from_date}
use Rattle.psy_dates.proofs.calendar.pass_all.Given as goal

abbrev pub invariant-clocks : goal.invariant-clocks
invariant-clocks l = record {
  below : (clock : ℕ) (known : Clock) → clock < l.clock → slice_get l.clocks clock ≡ Some known → slice_get l.nexts clock ≡ Some (from_date known (l.date + 1) 0);
  above : (clock : ℕ) → l.clock ≤ clock → slice_get l.nexts clock ≡ slice_get l.fn.nexts clock;
  least : (clock next : ℕ) → clock < l.clock → slice_get l.nexts clock ≡ Some next → l.least ≤ next;
}
