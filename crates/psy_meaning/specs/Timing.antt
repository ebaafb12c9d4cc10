-- When the actions of an agent begin, are due and end.
use Rattle.std.specs.Prelude.{ℕ, min, List, [], ◌∷◌, map, get_or}
use Rattle.std.specs.List.{Contains}
use Rattle.psy_clock.specs.declared.clock.Clock.{Clock}
use Rattle.psy_clock.specs.Dates.{after_date}
use Rattle.psy_tree.specs.declared.unit.AgentDecl.{AgentDecl}
use Rattle.psy_tree.specs.declared.unit.Point.{Point}
use Rattle.psy_tree.specs.declared.unit.Unit.{Unit as Whole}

-- What tells it: the clocks of the program, the agent's points, and for each point those that may follow it.
pub record Timing : Type 0 where
  pub clocks : List Clock
  pub points : List Point
  pub nexts : List (List ℕ)

-- That of an agent of a program, where these points may follow each of its points
abbrev pub timing_of : Whole → AgentDecl → List (List ℕ) → Timing
timing_of unit agent nexts = record { clocks = unit.clocks; points = agent.points; nexts = nexts }

-- The point of a number: that after one tick where there is none
abbrev pub point_at : Timing → ℕ → Point
point_at timing point = get_or timing.points point (record { count = 1; clock = 0; budget = 0 })

-- The clock of a number: that of all ticks where there is none
abbrev pub clock_at : Timing → ℕ → Clock
clock_at timing clock = get_or timing.clocks clock (record { period = 1; first = 0 })

-- The points that may follow a point
abbrev pub following : Timing → ℕ → List ℕ
following timing point = get_or timing.nexts point []

-- The cycles that an action from a point may take
abbrev pub budget_at : Timing → ℕ → ℕ
budget_at timing point = (point_at timing point).budget

-- The date of the agent's first action: the first date of the clock of its head
abbrev pub first_date : Timing → ℕ
first_date timing = (clock_at timing (point_at timing 0).clock).first

-- The date at which an action that started at a date and reaches a point ends: so many dates of that point's clock later
abbrev pub end_date : Timing → ℕ → ℕ → ℕ
end_date timing start to = after_date (clock_at timing (point_at timing to).clock) start (point_at timing to).count

-- The least of some numbers
abbrev pub least : List ℕ → ℕ
least [] = 0
least (n ∷ []) = n
least (n ∷ rest) = min n (least rest)

-- The deadline of an action from a point that starts at a date: the earliest of the dates at which it may end
abbrev pub deadline : Timing → ℕ → ℕ → ℕ
deadline timing point start = least (map (end_date timing start) (following timing point))

-- An action of the agent may start at this point and at this date.
pub data MayStart (timing : Timing) : ℕ → ℕ → Type 0 where
  first : MayStart timing 0 (first_date timing)
  later : (point start to : ℕ) → MayStart timing point start → Contains (following timing point) to → MayStart timing to (end_date timing start to)
