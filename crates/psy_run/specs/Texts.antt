-- The texts of `check` and `graph`, line by line.
use Rattle.std.specs.Prelude.{ℕ, ◌+◌, List, [], ◌∷◌, ◌++◌, length, map, get_or}
use Rattle.psy_base.specs.declared.edge.Edge.{Edge}
use Rattle.psy_base.specs.declared.sizes.Sizes.{Sizes}
use Rattle.psy_tree.specs.declared.unit.AgentDecl.{AgentDecl}
use Rattle.psy_tree.specs.declared.unit.StreamDecl.{StreamDecl}
use Rattle.psy_tree.specs.declared.unit.Unit.{Unit as Whole}
use Rattle.psy_tree.specs.declared.unit.VarDecl.{VarDecl}
use Rattle.psy_log.specs.Forms.{variable_size_line, stream_size_line, rate_line, always_line, feasible_line, agent_graph_line, node_line, edge_line}
use Rattle.psy_graph.specs.declared.graph.Graph.{Graph}
use Rattle.psy_graph.specs.declared.graph.Node.{Node}
use Rattle.psy_rate.specs.declared.line.Rate.{Rate}
use Rattle.psy_kernel.specs.Texts.{text_of}
use Rattle.psy_plan.specs.declared.extent.Extent.{Extent}
use Rattle.psy_plan.specs.declared.extent.Extent.TheVariants.{Horizon, LastDate}

-- ---- check

-- A line for each of what is declared, with what was found of it
abbrev pub paired_lines : {X Y : Type 0} → (X → Y → List ℕ) → List X → List Y → List (List ℕ)
paired_lines line (x ∷ xs) (y ∷ ys) = line x y ∷ paired_lines line xs ys
paired_lines line _ _ = []

-- The sizes of the rings of variables
abbrev pub ring_lines : List VarDecl → List ℕ → List (List ℕ)
ring_lines = paired_lines (λ (v : VarDecl). variable_size_line v.name)

-- The sizes of the queues of streams
abbrev pub queue_lines : List StreamDecl → List ℕ → List (List ℕ)
queue_lines = paired_lines (λ (s : StreamDecl). stream_size_line s.name)

-- The lines above the demands of agents
abbrev pub rate_lines : List AgentDecl → List Rate → List (List ℕ)
rate_lines = paired_lines (λ (agent : AgentDecl) (line : Rate). rate_line agent.name line.rate line.intercept)

-- The verdict: the demand is supplied over every length, where it is up to the horizon, or else over each up to the last date.
abbrev pub verdict_line : Extent → List ℕ
verdict_line (Horizon length) = always_line
verdict_line (LastDate date) = feasible_line date

-- The sizes, the lines above the demand, and the verdict
abbrev pub check_lines : Whole → Sizes → List Rate → Extent → List (List ℕ)
check_lines unit sizes lines extent = ring_lines unit.variables sizes.rings ++ (queue_lines unit.streams sizes.queues
    ++ (rate_lines unit.agents lines ++ verdict_line extent ∷ []))

-- The text of a check
abbrev pub check_text : Whole → Sizes → List Rate → Extent → List ℕ
check_text unit sizes lines extent = text_of (check_lines unit sizes lines extent)

-- ---- graph

-- The line of a node with a number, with the greatest cost from its point
abbrev pub line_of_node : List ℕ → ℕ → Node → List ℕ
line_of_node costs number node = node_line number node.point node.phase node.budget (get_or costs node.point 0) node.due

-- The lines of nodes, numbered from here on
abbrev pub node_lines : List ℕ → ℕ → List Node → List (List ℕ)
node_lines costs number [] = []
node_lines costs number (node ∷ rest) = line_of_node costs number node ∷ node_lines costs (number + 1) rest

-- The lines of edges
abbrev pub edge_lines : List Edge → List (List ℕ)
edge_lines = map (λ edge. edge_line edge.from edge.to edge.len)

-- The lines of an agent: its graph's counts, its nodes and its edges
abbrev pub agent_lines : AgentDecl → Graph → List ℕ → List (List ℕ)
agent_lines agent graph costs = agent_graph_line agent.name (length graph.nodes) (length graph.edges)
    ∷ (node_lines costs 0 graph.nodes ++ edge_lines graph.edges)

-- The lines of all agents
abbrev pub graph_lines : List AgentDecl → List Graph → List (List ℕ) → List (List ℕ)
graph_lines (agent ∷ agents) (graph ∷ graphs) (list ∷ costs) = agent_lines agent graph list ++ graph_lines agents graphs costs
graph_lines _ _ _ = []

-- Their text
abbrev pub graph_text : List AgentDecl → List Graph → List (List ℕ) → List ℕ
graph_text agents graphs costs = text_of (graph_lines agents graphs costs)
