-- Who moves at a date: the agents whose seats change there.
use Rattle.std.specs.Prelude.{◌≡◌, ◌≢◌, ℕ, suc, ◌+◌, ◌<◌, ◌≤◌, ◌==◌, Bool, false, nat_le, List, [], ◌∷◌, length, Option, Some, None, slice_get, ⊤}
use Rattle.psy_meaning.specs.Timing.{first_date}
use Rattle.psy_dates.specs.declared.plan.Plan.{Plan}
use Rattle.psy_dates.specs.declared.seat.Phase.{Phase}
use Rattle.psy_dates.specs.declared.seat.Phase.TheVariants as phase
use Rattle.psy_dates.specs.declared.seat.Seat.{Seat}
use Rattle.psy_dates.specs.Moves.{ends_at, timing_in}

-- ---- lists of numbers

-- Of the numbers from one on and below another this list has each that passes a test, and it rises.
abbrev pub NamesAll : (ℕ → Bool) → ℕ → ℕ → List ℕ → Type 0
NamesAll test end from [] = (k : ℕ) → from ≤ k → k < end → test k ≡ false
NamesAll test end from (m ∷ more) = (from ≤ m) × (m < end) × ((k : ℕ) → from ≤ k → k < m → test k ≡ false) × NamesAll test end (m + 1) more

-- The first n items of a list became what this makes of them, by their places, and the others are as they were.
pub record IsDoneBelow {X : Type 0} (made : ℕ → X → X) (n : ℕ) (before after : List X) : Type 0 where
  pub count : length after ≡ length before
  pub done : (place : ℕ) (x : X) → place < n → slice_get before place ≡ Some x → slice_get after place ≡ Some (made place x)
  pub ahead : (place : ℕ) → n ≤ place → slice_get after place ≡ slice_get before place

-- ---- a seat

-- A seat changes at a date, by what its agent is at: at its first date, which is given, at the end of its action, or at the deadline at which
-- it falls silent.
abbrev pub moves_by : ℕ → ℕ → Seat → Phase → Bool
moves_by date first seat phase.Waiting = first == date
moves_by date first seat phase.Ended = seat.end == date
moves_by date first seat phase.Stopped = nat_le seat.deadline date
moves_by date first seat phase = false

-- A date is no later than the next one at which a seat changes.
abbrev pub IsBefore : ℕ → ℕ → Seat → Phase → Type 0
IsBefore date first seat phase.Waiting = date ≤ first
IsBefore date first seat phase.Ended = date ≤ seat.end
IsBefore date first seat phase.Stopped = date ≤ seat.deadline
IsBefore date first seat phase = ⊤

-- Its action started with the last of so many dates.
abbrev pub starts_by : ℕ → Seat → Phase → Bool
starts_by dates seat phase.Acting = suc seat.start == dates
starts_by dates seat phase = false

-- Its agent fell silent with the last of so many dates.
abbrev pub falls_by : ℕ → Seat → Phase → Bool
falls_by dates seat phase.Silent = suc seat.deadline == dates
falls_by dates seat phase = false

-- A test of the seat of an agent: false where there is no such agent
abbrev pub of_seat : (Seat → Bool) → Option Seat → Bool
of_seat test None = false
of_seat test (Some seat) = test seat

-- ---- agents

-- When the first action of an agent of a plan starts
abbrev pub first_in : Plan → ℕ → ℕ
first_in plan agent = first_date (timing_in plan agent)

-- An agent of a plan moves at a date.
abbrev pub moves_in : Plan → ℕ → List Seat → ℕ → Bool
moves_in plan date seats agent = of_seat (λ seat. moves_by date (first_in plan agent) seat seat.phase) (slice_get seats agent)

-- It ends its action there.
abbrev pub ends_in : ℕ → List Seat → ℕ → Bool
ends_in date seats agent = ends_at date (slice_get seats agent)

-- Its action started with the last of so many dates.
abbrev pub starts_in : ℕ → List Seat → ℕ → Bool
starts_in dates seats agent = of_seat (λ seat. starts_by dates seat seat.phase) (slice_get seats agent)

-- It fell silent with the last of so many dates.
abbrev pub falls_in : ℕ → List Seat → ℕ → Bool
falls_in dates seats agent = of_seat (λ seat. falls_by dates seat seat.phase) (slice_get seats agent)

-- A date is no later than the next one at which a seat changes, where the first dates of agents are these.
abbrev pub AreBefore : (ℕ → ℕ) → ℕ → List Seat → Type 0
AreBefore first date seats = (agent : ℕ) (seat : Seat) → slice_get seats agent ≡ Some seat → IsBefore date (first agent) seat seat.phase

-- No agent was stopped, nor is one silent.
abbrev pub NoneStopped : List Seat → Type 0
NoneStopped seats = (agent : ℕ) (seat : Seat) → slice_get seats agent ≡ Some seat → (seat.phase ≢ phase.Stopped) × (seat.phase ≢ phase.Silent)
