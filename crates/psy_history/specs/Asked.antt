-- What the agents of a processor may still ask of it by a date, and the bound on it that the schedule keeps at each cycle.
use Rattle.std.specs.Prelude.{◌≡◌, ◌⊎◌, ℕ, ◌+◌, ◌-◌, ◌*◌, ◌/◌, ◌<◌, ◌≤◌, true, false, ◌&&◌, if◌then◌else◌, nat_le}
use Rattle.std.specs.Prelude.{List, [], ◌∷◌, length, Option, Some, slice_get, sum_by}
use Rattle.std.specs.List.{All, Contains, range_with_len}
use Rattle.psy_base.specs.declared.edge.Edge.{Edge}
use Rattle.psy_base.specs.Paths.{DueBy, IsPathFrom, weight_of}
use Rattle.psy_history.specs.Actions.{Action, History, Next, System, next_of, timing}
use Rattle.psy_meaning.specs.Graph.{IsGraph, Spot, spot_at}
use Rattle.psy_history.specs.History.{history}
use Rattle.psy_history.specs.Processors.{processor_at, served}
use Rattle.psy_history.specs.Schedule.{Turn, is_pending, units}
use Rattle.psy_meaning.specs.Timing.{budget_at, deadline, end_date, following}
use Rattle.psy_history.specs.Scheduled.{IsFinished, turns_of}

-- The graph of an agent, with what its nodes stand for
pub record Drawn (s : System) (graphs : List (List Edge)) (agent : ℕ) : Type 0 where
  pub edges : List Edge
  pub at : slice_get graphs agent ≡ Some edges
  pub spots : List Spot
  pub graph : IsGraph (timing s agent) spots edges

module _ (s : System) (graphs : List (List Edge)) (agent : ℕ) (g : Drawn s graphs agent) where
  -- The node of this number is that of a point and a date.
  abbrev pub IsNode : ℕ → ℕ → ℕ → Type 0
  IsNode point start node = slice_get g.spots node ≡ Some (spot_at g.graph.cycle point start)

  -- The edge of an action that starts there and then, and reaches a point
  pub record IsStep (point start to : ℕ) (e : Edge) : Type 0 where
    pub there : Contains g.edges e
    pub follows : Contains (following (timing s agent) point) to
    pub from : IsNode point start e.from
    pub into : IsNode to (end_date (timing s agent) start to) e.to
    pub len : start + e.len ≡ end_date (timing s agent) start to
    pub due : start + e.due ≡ deadline (timing s agent) point start
    pub weight : e.weight ≡ budget_at (timing s agent) point

  -- What may follow the agent's present action, as a path of its graph whose last action is due by a date: nothing; what follows from
  -- where a pending action may end; or, where its actions are finished, the next one and what follows that. Behind an action that
  -- was stopped there is no next one.
  pub data IsContinuation (by : ℕ) (turns : List (Option Turn)) : List Action → List Edge → Type 0 where
    nothing : {actions : List Action} → IsContinuation by turns actions []
    behind : {r : Action} {before : List Action} {to : ℕ} {e : Edge} {path : List Edge} → is_pending turns r ≡ true
        → IsStep r.point r.start to e → IsPathFrom g.edges e.to path → DueBy by (r.start + e.len) path
        → IsContinuation by turns (r ∷ before) path
    next : {actions : List Action} {n : Next} {path : List Edge} (node : ℕ) → All (λ r. is_pending turns r ≡ false) actions
        → next_of s agent actions ≡ Some n → IsNode n.point n.start node → IsPathFrom g.edges node path → DueBy by n.start path
        → IsContinuation by turns actions path

-- The budget that an action has left, where it is pending and due by a date
abbrev pub left_of : ℕ → List (Option Turn) → Action → ℕ
left_of by turns r = if is_pending turns r && nat_le r.deadline by then r.budget - units r.agent r.number turns else 0

-- What an agent may still ask: what its actions have left, and the budgets of a continuation
abbrev pub asked_by : ℕ → List (Option Turn) → List Action → List Edge → ℕ
asked_by by turns actions path = sum_by (left_of by turns) actions + weight_of path

-- The history that a cycle finds: the actions of the dates up to its own
abbrev pub found : System → ℕ → History
found s cycle = history s (cycle / s.unit.quantum + 1)

-- One continuation an agent of a processor
abbrev pub AreContinuations : (s : System) → (ℕ → List ℕ) → ℕ → List (List Edge) → ℕ → ℕ → (ℕ → List Edge) → Type 0
AreContinuations s order processor graphs cycle by paths = (agent : ℕ) → agent < length s.unit.agents → processor_at s.unit agent ≡ processor
    → (g : Drawn s graphs agent) × IsContinuation s graphs agent g by (turns_of s order cycle processor) (found s cycle agent) (paths agent)

-- Before a cycle all is finished of the agents of a processor that is due by a date; or what these may still ask by then, whichever way each
-- goes on, is at most what the cycles up to that date supply.
abbrev pub IsBoundedBy : System → (ℕ → List ℕ) → ℕ → List (List Edge) → ℕ → ℕ → Type 0
IsBoundedBy s order processor graphs cycle by =
    ((agent : ℕ) (r : Action) → processor_at s.unit agent ≡ processor → Contains (found s cycle agent) r → r.deadline ≤ by → IsFinished s order cycle r)
    ⊎ ((paths : ℕ → List Edge) → AreContinuations s order processor graphs cycle by paths
    → sum_by (λ agent. asked_by by (turns_of s order cycle processor) (found s cycle agent) (paths agent))
    (served s.unit processor (range_with_len 0 (length s.unit.agents)))
    ≤ s.unit.quantum * by - cycle)
