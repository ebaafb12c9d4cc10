-- How many dates of a clock stand between a date in a phase of a cycle and another.
use Rattle.std.specs.Prelude.{◌≡◌, ℕ, ◌+◌, ◌-◌, ◌%◌, List, []}
use Rattle.psy_clock.specs.declared.clock.Clock.{Clock}
use Rattle.psy_tree.specs.declared.unit.Point.{Point}
use Rattle.psy_meaning.specs.RingSizes.{dates_between}
use Rattle.psy_meaning.specs.Timing.{Timing}

-- A timing with these clocks and points, of which nothing is said what follows them: enough to tell its cycle
abbrev pub timing_by : List Clock → List Point → Timing
timing_by clocks points = record { clocks = clocks; points = points; nexts = [] }

-- So many dates of a clock stand behind some date in this phase of a cycle, and before the date so many ticks later.
abbrev pub HasDates : Clock → ℕ → ℕ → ℕ → ℕ → Type 0
HasDates clock cycle phase due dates = (date : ℕ) × (date % cycle ≡ phase) × (dates ≡ dates_between clock date (date + due - 1))
