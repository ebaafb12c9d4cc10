-- What the schedule of a lawful system keeps.
use Rattle.std.specs.Prelude.{◌≡◌, ℕ, ◌<◌, ◌≤◌, ◌==◌, false, if◌then◌else◌, List, ◌∷◌, Option, length}
use Rattle.std.specs.List.{Contains}
use Rattle.psy_base.specs.declared.edge.Edge.{Edge}
use Rattle.psy_history.specs.Actions.{Action, System}
use Rattle.psy_meaning.specs.Demand.{IsFeasible}
use Rattle.psy_tree.specs.declared.unit.Unit.{Unit as Whole}
use Rattle.psy_history.specs.History.{history}
use Rattle.psy_history.specs.Processors.{edges_for, processor_at, processors, served}
use Rattle.psy_history.specs.Schedule.{Turn, is_pending, turns}
use Rattle.psy_history.specs.Compiled.{AreEdgesOf}
use Rattle.psy_history.specs.Regular.{IsLawful}

-- Each order that is in force at some cycle has all agents.
abbrev pub HaveAll : System → (ℕ → List ℕ) → Type 0
HaveAll s order = (cycle agent : ℕ) → agent < length s.unit.agents → Contains (order cycle) agent

-- What the first so many cycles of a processor go to, which serves its own agents in the order in force
abbrev pub turns_of : System → (ℕ → List ℕ) → ℕ → ℕ → List (Option Turn)
turns_of s order cycles processor = turns (λ cycle. served s.unit processor (order cycle)) s.unit.quantum (history s) cycles

-- By agent, what the first so many cycles of its processor go to
abbrev pub turns_by : System → (ℕ → List ℕ) → ℕ → ℕ → List (Option Turn)
turns_by s order cycles agent = turns_of s order cycles (processor_at s.unit agent)

-- By agent, what the cycles of its processor went to, where one more of this processor goes to this
abbrev pub gone_to : Whole → ℕ → Option Turn → (ℕ → List (Option Turn)) → ℕ → List (Option Turn)
gone_to unit processor turn turns agent = if processor_at unit agent == processor then turn ∷ turns agent else turns agent

-- A lawful system each of whose processors can supply the demand of its agents up to a date
pub record IsSupplied (s : System) (order : ℕ → List ℕ) (until : ℕ) : Type 0 where
  pub lawful : IsLawful s
  pub quantum : 1 ≤ s.unit.quantum
  pub orders : HaveAll s order
  pub graphs : List (List Edge)
  pub drawn : AreEdgesOf s graphs
  pub feasible : (processor : ℕ) → processor < processors s.unit → IsFeasible (edges_for s.unit processor graphs) s.unit.quantum until

-- An action is finished, or stopped, when this many cycles of its processor are done.
abbrev pub IsFinished : System → (ℕ → List ℕ) → ℕ → Action → Type 0
IsFinished s order cycles r = is_pending (turns_by s order cycles r.agent) r ≡ false
