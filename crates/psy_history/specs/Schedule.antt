-- The schedule of a history: which action each processor cycle goes to (preemptive earliest deadline first, under budgets).
use Rattle.std.specs.Prelude.{ℕ, zero, suc, ◌+◌, ◌/◌, ◌==◌, Bool, false, ◌&&◌, min, nat_le, nat_lt, if◌then◌else◌, List, [], ◌∷◌, filter, length}
use Rattle.std.specs.Prelude.{Option, Some, None}
use Rattle.std.specs.List.{flat_map}
use Rattle.psy_history.specs.Actions.{Action, History}

-- An action that a cycle goes to, by its agent and its number
pub record Turn : Type 0 where
  pub agent : ℕ
  pub number : ℕ

-- The cycles an action is given in all: it is stopped where its budget is spent.
abbrev pub work : Action → ℕ
work r = min r.charge r.budget

-- The cycle went to this action.
abbrev pub is_of : ℕ → ℕ → Option Turn → Bool
is_of agent number None = false
is_of agent number (Some turn) = turn.agent == agent && turn.number == number

-- How many cycles an action had, of those done, the last of which comes first
abbrev pub units : ℕ → ℕ → List (Option Turn) → ℕ
units agent number [] = 0
units agent number (turn ∷ turns) = if is_of agent number turn then suc (units agent number turns) else units agent number turns

-- An action had fewer cycles than its work.
abbrev pub is_pending : List (Option Turn) → Action → Bool
is_pending turns r = nat_lt (units r.agent r.number turns) (work r)

-- The pending actions of a history, agent by agent in this order
abbrev pub pending : List ℕ → List (Option Turn) → History → List Action
pending order turns h = flat_map (λ agent. filter (is_pending turns) (h agent)) order

-- Of an action and the first of those behind it, the one of the earlier deadline; of equal ones the one before
abbrev pub sooner : Action → Option Action → Option Action
sooner r None = Some r
sooner r (Some later) = if nat_le r.deadline later.deadline then Some r else Some later

-- The action of the earliest deadline; of equal ones the first in the list
abbrev pub soonest : List Action → Option Action
soonest [] = None
soonest (r ∷ actions) = sooner r (soonest actions)

-- The turn of an action; none where there is no action
abbrev pub turn_of : Option Action → Option Turn
turn_of None = None
turn_of (Some r) = Some (record { agent = r.agent; number = r.number })

-- What the first so many cycles go to, the last one first: at each cycle the pending action of the earliest deadline, ties going by
-- the order in force. `started` is the history by how many dates are done, and in cycle c the dates up to c / quantum are.
abbrev pub turns : (ℕ → List ℕ) → ℕ → (ℕ → History) → ℕ → List (Option Turn)
turns order quantum started zero = []
turns order quantum started (suc cycle) =
    let before = turns order quantum started cycle in
    turn_of (soonest (pending (order cycle) before (started (cycle / quantum + 1)))) ∷ before

-- The number of the cycle after the last one that an action had so far; 0 where it had none. Of an action that is finished it is the
-- cycle after its last unit of work.
abbrev pub finish : ℕ → ℕ → List (Option Turn) → ℕ
finish agent number [] = 0
finish agent number (turn ∷ turns) = if is_of agent number turn then length turns + 1 else finish agent number turns

-- The cycle of an action's unit of this number, counted from 0, where it had it
abbrev pub cycle_of_unit : ℕ → ℕ → ℕ → List (Option Turn) → Option ℕ
cycle_of_unit agent number unit [] = None
cycle_of_unit agent number unit (turn ∷ turns) =
    if is_of agent number turn && units agent number turns == unit then Some (length turns) else cycle_of_unit agent number unit turns
