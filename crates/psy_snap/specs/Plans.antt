-- What reading a state asks of the plan that is to be run.
use Rattle.std.specs.Prelude.{◌≡◌, ℕ, ◌-◌, ◌%◌, ◌<◌, ◌≤◌, ◌==◌, Bool, nat_lt, if◌then◌else◌, List, [], ◌∷◌, get_or, length, map, Option, Some, None}
use Rattle.std.specs.List.{All}
use Rattle.psy_arith.specs.declared.width.Width.{Width}
use Rattle.psy_base.specs.declared.limits.TheConstants.{AGENTS, POINTS}
use Rattle.psy_clock.specs.Dates.{IsClock}
use Rattle.psy_clock.specs.declared.clock.Clock.{Clock}
use Rattle.psy_dates.specs.declared.plan.Plan.{Plan}
use Rattle.psy_meaning.specs.Alike.{first_copies}
use Rattle.psy_meaning.specs.CodeWays.{agent_code_at}
use Rattle.psy_snap.specs.Forms.{cell_types}
use Rattle.psy_tree.specs.Parts.{agent_at, no_clock}
use Rattle.psy_tree.specs.declared.unit.Point.{Point}
use Rattle.psy_tree.specs.declared.unit.Slots.{Slots}

-- Its parts are there for each agent, variable and stream, and name agents and clocks that there are.
pub record IsReadable (plan : Plan) : Type 0 where
  pub clocks : All IsClock plan.unit.clocks
  pub codes : length plan.code.agents ≡ length plan.unit.agents
  pub points : (agent : ℕ) → agent < length plan.unit.agents → 1 ≤ length (agent_at plan.unit agent).points
  pub few : (agent : ℕ) → agent < length plan.unit.agents → length (agent_at plan.unit agent).points ≤ POINTS
  pub timed : (agent : ℕ) → agent < length plan.unit.agents → All (λ p. p.clock < length plan.unit.clocks) (agent_at plan.unit agent).points
  pub copies : (agent : ℕ) → agent < length plan.unit.agents
      → length (agent_code_at plan.code agent).copies ≡ length (first_copies plan.unit agent)
  pub rings : length plan.sizes.rings ≡ length plan.unit.variables
  pub published : All (λ v. v.clock < length plan.unit.clocks) plan.unit.variables
  pub queues : length plan.sizes.queues ≡ length plan.unit.streams
  pub received : All (λ s. s.receiver < length plan.unit.agents) plan.unit.streams
  pub agents : length plan.unit.agents ≤ AGENTS

-- The periods of the clocks that some points name
abbrev pub periods_of : List Clock → List Point → List ℕ
periods_of clocks points = map (λ p. (get_or clocks p.clock no_clock).period) points

-- The type of the slot that a cell is of, where it is one of a slot
abbrev pub slot_of : List Slots → ℕ → Option Width
slot_of [] cell = None
slot_of (s ∷ slots) cell = if nat_lt cell s.cells then Some s.width else slot_of slots (cell - s.cells)

-- The types of an agent's cells
abbrev pub types_of : Plan → ℕ → List (Option Width)
types_of plan agent = cell_types (agent_at plan.unit agent) (length (agent_code_at plan.code agent).cells)

-- Two dates leave the same remainder by the period of a point's clock.
abbrev pub is_alike : List Clock → ℕ → ℕ → Point → Bool
is_alike clocks date other point = date % (get_or clocks point.clock no_clock).period == other % (get_or clocks point.clock no_clock).period
