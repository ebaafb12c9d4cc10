-- The next dates of clocks.
use Rattle.std.specs.Prelude.{◌≡◌, ℕ, List, length, Some, slice_get}
use Rattle.psy_clock.specs.declared.clock.Clock.{Clock}
use Rattle.psy_clock.specs.Dates.{from_date}

-- By clock its first date from a time on
abbrev pub AreNext : List Clock → ℕ → List ℕ → Type 0
AreNext clocks time nexts = (clock : ℕ) (known : Clock) → slice_get clocks clock ≡ Some known → slice_get nexts clock ≡ Some (from_date known time 0)

-- A calendar has each clock, and its first date behind the first so many dates.
pub record CalendarStands (clocks : List Clock) (dates : ℕ) (calendar : List ℕ) : Type 0 where
  pub count : length calendar ≡ length clocks
  pub nexts : AreNext clocks dates calendar
