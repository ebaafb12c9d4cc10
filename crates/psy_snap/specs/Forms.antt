-- What the bytes of a state must look like, by its plan: as many agents, variables and streams as the program has, and what each may hold.
use Rattle.std.specs.Prelude.{ℕ, ◌-◌, ◌%◌, ◌^◌, Bool, true, ◌&&◌, ◌==◌, int_le, int_lt, neg_ℤ, pos, List, [], ◌++◌, map, length, take, replicate}
use Rattle.std.specs.Prelude.{get_or, Option, Some, None, ℤ}
use Rattle.std.specs.List.{flat_map, list_all, list_any, range_with_len}
use mir.Val.{bits}
use Rattle.psy_arith.specs.declared.width.Width.{Width}
use Rattle.psy_arith.specs.Widths.{of_type}
use Rattle.psy_clock.specs.Dates.{count}
use Rattle.psy_clock.specs.declared.clock.Clock.{Clock}
use Rattle.psy_dates.specs.declared.plan.Plan.{Plan}
use Rattle.psy_graph.specs.declared.graph.Graph.{Graph}
use Rattle.psy_graph.specs.declared.graph.Node.{Node}
use Rattle.psy_meaning.specs.Alike.{first_copies}
use Rattle.psy_meaning.specs.CodeWays.{agent_code_at}
use Rattle.psy_meaning.specs.Graph.{periods}
use Rattle.psy_meaning.specs.RingSizes.{agent_timing}
use Rattle.psy_meaning.specs.Timing.{first_date}
use Rattle.psy_tree.specs.Parts.{agent_at, clock_in, stream_at, variable_at}
use Rattle.psy_tree.specs.declared.unit.AgentDecl.{AgentDecl}
use Rattle.psy_tree.specs.declared.unit.Slots.{Slots}

-- An agent: its first date; how many points it has; the type of each of its cells, where the program gives one; how many variables it owns; and
-- where its actions start, by the periods of its clocks and the nodes of its graph
pub record AgentForm : Type 0 where
  pub first : ℕ
  pub points : ℕ
  pub cells : List (Option Width)
  pub copies : ℕ
  pub periods : List ℕ
  pub nodes : List Node

-- A variable: how many values its ring holds, the dates at which it publishes, and its first value
pub record VarForm : Type 0 where
  pub size : ℕ
  pub clock : Clock
  pub init : ℤ

-- A stream: how many messages it has room for, and its receiver
pub record StreamForm : Type 0 where
  pub size : ℕ
  pub receiver : ℕ

-- A state
pub record Form : Type 0 where
  pub until : ℕ
  pub agents : List AgentForm
  pub variables : List VarForm
  pub streams : List StreamForm

-- ---- what is asked by a form

-- The value is in the range of the type, where there is one.
abbrev pub fits_type : Option Width → ℤ → Bool
fits_type None z = true
fits_type (Some width) z = int_le (neg_ℤ (pos (2 ^ (bits (of_type width) - 1)))) z && int_lt z (pos (2 ^ (bits (of_type width) - 1)))

-- The two dates are of one phase: they leave the same remainder by each of the periods.
abbrev pub is_phase : List ℕ → ℕ → ℕ → Bool
is_phase periods date other = list_all (λ p. date % p == other % p) periods

-- One of the nodes has the point, and the phase of the date.
abbrev pub is_node : List ℕ → List Node → ℕ → ℕ → Bool
is_node periods nodes point date = list_any (λ (node : Node). (node.point == point) && is_phase periods date node.phase) nodes

-- An action of the agent may start at this point at this date: there is such a node of its graph.
abbrev pub may_start : AgentForm → ℕ → ℕ → Bool
may_start form point date = is_node form.periods form.nodes point date

-- How many values a variable has published up to a date
abbrev pub published_by : VarForm → ℕ → ℕ
published_by form date = count form.clock date

-- ---- the form of a plan

-- The types of so many cells: those of the slots' cells in order, and none for those behind
abbrev pub types_of_slot : Slots → List (Option Width)
types_of_slot slot = replicate slot.cells (Some slot.width)

unfoldable pub cell_types : AgentDecl → ℕ → List (Option Width)
cell_types agent cells = take cells (flat_map types_of_slot agent.slots ++ replicate cells None)

abbrev pub no_graph : Graph
no_graph = record { nodes = []; edges = [] }

unfoldable pub agent_form : Plan → List Graph → ℕ → AgentForm
agent_form plan graphs agent = record {
  first = first_date (agent_timing plan.unit plan.nexts agent);
  points = length (agent_at plan.unit agent).points;
  cells = cell_types (agent_at plan.unit agent) (length (agent_code_at plan.code agent).cells);
  copies = length (first_copies plan.unit agent);
  periods = periods (agent_timing plan.unit plan.nexts agent);
  nodes = (get_or graphs agent no_graph).nodes;
}

unfoldable pub variable_form : Plan → ℕ → VarForm
variable_form plan variable = record {
  size = get_or plan.sizes.rings variable 0;
  clock = clock_in plan.unit (variable_at plan.unit variable).clock;
  init = (variable_at plan.unit variable).init;
}

unfoldable pub stream_form : Plan → ℕ → StreamForm
stream_form plan stream = record { size = get_or plan.sizes.queues stream 0; receiver = (stream_at plan.unit stream).receiver }

-- The form of the states of a plan, whose agents have these graphs
unfoldable pub form_of : Plan → List Graph → Form
form_of plan graphs = record {
  until = plan.until;
  agents = map (agent_form plan graphs) (range_with_len 0 (length plan.unit.agents));
  variables = map (variable_form plan) (range_with_len 0 (length plan.unit.variables));
  streams = map (stream_form plan) (range_with_len 0 (length plan.unit.streams));
}
