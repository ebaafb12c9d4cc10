-- What each run keeps, and its summary shows; and what a check tells.
use Rattle.std.specs.Prelude.{◌≡◌, ℕ, ◌+◌, ◌*◌, ◌<◌, ◌≤◌, List, length, Some, get_or, ⊤}
use Rattle.std.specs.List.{Contains}
use Rattle.psy_base.specs.declared.sizes.Sizes.{Sizes}
use Rattle.psy_history.specs.Actions.{Action, System}
use Rattle.psy_history.specs.History.{history}
use Rattle.psy_history.specs.Schedule.{finish}
use Rattle.psy_history.specs.Summary.{most_held, reach}
use Rattle.psy_history.specs.Scheduled.{IsFinished, turns_by}
use Rattle.psy_history.specs.Scripts.{order_of}
use Rattle.psy_graph.specs.declared.graph.Graph.{Graph}
use Rattle.psy_graph.specs.Graphs.{AreGraphs}
use Rattle.psy_demand.specs.Criterion.{edges_of}
use Rattle.psy_rate.specs.Lines.{AreRates}
use Rattle.psy_plan.specs.Supplies.{IsMet}
use Rattle.psy_run.specs.Services.{Service, Ran, Checked, Tried, Executed, Traced, Saved, Resumed, meaning_behind, meaning_by, meaning_of, no_inputs, no_script}

-- A run up to a date keeps its bounds, where queues have so many places.
pub record KeepsBoundsIn (places : ℕ → ℕ) (s : System) (order : ℕ → List ℕ) (sizes : Sizes) (until : ℕ) : Type 0 where
  -- each action that is due by then has by its deadline had all its work, up to its budget: it is finished, or stopped
  pub finished : (agent : ℕ) (r : Action) → Contains (history s (until + 1) agent) r → r.deadline ≤ until
      → IsFinished s order (r.deadline * s.unit.quantum) r
  -- and the cycle behind its last one is no later, so that its slack is a true difference
  pub in_time : (agent : ℕ) (r : Action) → Contains (history s (until + 1) agent) r → r.deadline ≤ until
      → finish r.agent r.number (turns_by s order (until * s.unit.quantum) r.agent) ≤ r.deadline * s.unit.quantum
  -- no ring was reached for beyond its size
  pub rings : (variable n : ℕ) → variable < length s.unit.variables
      → reach s (turns_by s order (until * s.unit.quantum)) (history s (until + 1)) variable ≡ Some n → n < get_or sizes.rings variable 0
  -- and no queue held more than its places
  pub queues : (stream : ℕ) → stream < length s.unit.streams → most_held s until stream ≤ places stream

-- Queues have the sizes that the program needs.
abbrev pub KeepsBounds : System → (ℕ → List ℕ) → Sizes → ℕ → Type 0
KeepsBounds s order sizes until = KeepsBoundsIn (λ stream. get_or sizes.queues stream 0) s order sizes until

-- Behind a state each queue has as many places more as it held messages there.
abbrev pub KeepsBoundsBehind : System → (ℕ → List ℕ) → Sizes → ℕ → Type 0
KeepsBoundsBehind s order sizes until = KeepsBoundsIn (λ stream. get_or sizes.queues stream 0 + length (s.opening.messages stream)) s order sizes until

-- What runs keeps its bounds.
abbrev pub IsBounded : Service → Type 0
IsBounded (Ran unit nexts sizes until inputs script) = KeepsBounds (meaning_of unit nexts inputs script) (order_of unit script) sizes until
IsBounded (Tried unit nexts sizes until) = KeepsBounds (meaning_of unit nexts (no_inputs unit) no_script) (order_of unit no_script) sizes until
IsBounded (Executed unit code nexts sizes until inputs script) = KeepsBounds (meaning_by unit code nexts inputs script) (order_of unit script) sizes until
IsBounded (Traced unit nexts sizes until inputs script) = KeepsBounds (meaning_of unit nexts inputs script) (order_of unit script) sizes until
IsBounded (Saved unit nexts sizes date inputs script) = KeepsBounds (meaning_of unit nexts inputs script) (order_of unit script) sizes date
IsBounded (Resumed unit nexts sizes until state inputs script) =
    KeepsBoundsBehind (meaning_behind unit nexts sizes until state inputs script) (order_of unit script) sizes until
IsBounded service = ⊤

-- What a check tells is borne out: its lines are those of the agents' graphs, and their demand is met.
abbrev pub IsBorneOut : Service → Type 0
IsBorneOut (Checked unit sizes lines extent) = (graphs : List Graph) × AreGraphs unit graphs × AreRates (edges_of graphs) lines × IsMet unit graphs extent
IsBorneOut service = ⊤
