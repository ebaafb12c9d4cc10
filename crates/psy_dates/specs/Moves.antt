-- What a date does: to the seats of agents, and to the values committed.
use Rattle.std.specs.Prelude.{◌≡◌, ℕ, ◌+◌, ◌<◌, ◌^◌, ◌==◌, Bool, false, nat_le, if◌then◌else◌, List, [], Option, Some, None, slice_get, get_or}
use Rattle.psy_tree.specs.declared.unit.VarDecl.{VarDecl}
use Rattle.psy_tree.specs.Parts.{agent_at, no_variable}
use Rattle.psy_meaning.specs.Timing.{Timing, timing_of, first_date, deadline}
use Rattle.psy_dates.specs.declared.plan.Plan.{Plan}
use Rattle.psy_dates.specs.declared.seat.Phase.{Phase}
use Rattle.psy_dates.specs.declared.seat.Phase.TheVariants as phase
use Rattle.psy_dates.specs.declared.seat.Seat.{Seat}

-- When the actions of an agent of a plan begin, are due and end
abbrev pub timing_in : Plan → ℕ → Timing
timing_in plan agent = timing_of plan.unit (agent_at plan.unit agent) (get_or plan.nexts agent [])

-- ---- seats

-- The seat of an agent whose action of this number starts at a date, from a point
abbrev pub begun_at : Timing → ℕ → ℕ → ℕ → Seat
begun_at timing date number point = record {
  phase = phase.Acting;
  number = number;
  point = point;
  start = date;
  deadline = deadline timing point date;
  end = 0;
  reached = 0;
  trap = None;
}

-- What becomes of a seat at a date, by what its agent is at: the first action or the next one starts, or the agent falls silent.
abbrev pub seat_by : Timing → ℕ → Seat → Phase → Seat
seat_by timing date seat phase.Waiting = if first_date timing == date then begun_at timing date 0 0 else seat
seat_by timing date seat phase.Ended = if seat.end == date then begun_at timing date (seat.number + 1) seat.reached else seat
seat_by timing date seat phase.Stopped = if nat_le seat.deadline date then record seat { phase = phase.Silent } else seat
seat_by timing date seat phase = seat

-- The seat behind a date
abbrev pub seat_then : Timing → ℕ → Seat → Seat
seat_then timing date seat = seat_by timing date seat seat.phase

-- An agent that has ended an action has done fewer than this many.
abbrev pub IsNumbered : Seat → Type 0
IsNumbered seat = seat.phase ≡ phase.Ended → seat.number < 2 ^ 40

-- ---- values

-- The owner of a variable: none where there is no such variable
abbrev pub owner_of : List VarDecl → ℕ → Option ℕ
owner_of variables variable = (get_or variables variable no_variable).owner

-- An agent has ended an action, whose end is this date, by what it is at and whether the date is that.
abbrev pub ends_by : Phase → Bool → Bool
ends_by phase.Ended at = at
ends_by phase at = false

-- The agent of a seat ends its action at this date.
abbrev pub ends_at : ℕ → Option Seat → Bool
ends_at date None = false
ends_at date (Some seat) = ends_by seat.phase (seat.end == date)

-- A variable's owner ends its action at this date.
abbrev pub commits_at : ℕ → List Seat → Option ℕ → Bool
commits_at date seats None = false
commits_at date seats (Some owner) = ends_at date (slice_get seats owner)
