-- Up to which length the demand of a program's agents is looked at: up to the horizon, from which on the supply of each processor is above the
-- lines of its agents, or up to the last date where that comes first.
use Rattle.std.specs.Prelude.{◌≡◌, ℕ, ◌<◌, ◌≤◌, List}
use Rattle.psy_rate.specs.declared.line.Rate.{Rate}
use Rattle.psy_rate.specs.Horizons.{IsHorizon}
use Rattle.psy_rate.specs.Lines.{lines_by}
use Rattle.psy_plan.specs.declared.extent.Extent.{Extent}
use Rattle.psy_plan.specs.declared.extent.Extent.TheVariants.{Horizon, LastDate}

-- That length
abbrev pub length_of : Extent → ℕ
length_of (Horizon length) = length
length_of (LastDate date) = date

-- Of a program with so many cycles a tick, whose agents are of these processors and have these lines: the horizon of all processors, where there is
-- one that isn't behind the last date, else that date.
abbrev pub IsExtent : ℕ → List ℕ → List Rate → ℕ → Extent → Type 0
IsExtent quantum homes lines until (Horizon length) = IsHorizon quantum (lines_by homes lines) length × (length ≤ until)
IsExtent quantum homes lines until (LastDate date) = (date ≡ until) × ((length : ℕ) → IsHorizon quantum (lines_by homes lines) length → until < length)

-- Which of both comes first, this horizon or the last date
abbrev pub IsNearer : ℕ → ℕ → Extent → Type 0
IsNearer horizon until (Horizon length) = (length ≡ horizon) × (horizon ≤ until)
IsNearer horizon until (LastDate date) = (date ≡ until) × (until < horizon)
