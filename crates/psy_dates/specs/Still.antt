-- Dates at which nothing happens.
use Rattle.std.specs.Prelude.{◌≡◌, ℕ, ◌<◌, false, [], Some}
use Rattle.std.specs.List.{All}
use Rattle.psy_dates.specs.declared.shared.Shared.{Shared}

-- Nothing happens at a date that comes next, or behind that: no seat changes before another date that comes later, no agent was stopped, and each
-- clock has its next date later.
pub record IsStill (date : ℕ) (shared : Shared) : Type 0 where
  pub moves : date < shared.movers.least
  pub stopped : shared.movers.stopped ≡ false
  pub clocks : All (λ next. date < next) shared.calendar

-- What agents share behind such a date: nobody moved there.
abbrev pub passed : ℕ → Shared → Shared
passed date shared = record shared { movers = record shared.movers { moved = record shared.movers.moved { agents = [] } }; date = Some date }
