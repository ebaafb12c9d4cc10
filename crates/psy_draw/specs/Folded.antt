-- Action graphs folded by point, in the language DOT of Graphviz: a cluster for each agent, in it a box for each point at which its actions may start,
-- and an arrow from each point to each that may follow it.
use Rattle.std.specs.Prelude.{ℕ, ◌==◌, List, [], ◌∷◌, ◌++◌, codes, cond, decimal, get_or, length, max, nat_le, slice_get, take}
use Rattle.std.specs.Prelude.{true, false, Bool, Option, Some}
use Rattle.std.specs.List.{flat_map, fold, prefix_len, range_with_len}
use Rattle.psy_log.specs.declared.note.Note.{Note}
use Rattle.psy_log.specs.declared.note.Note.TheVariants as note
use Rattle.psy_draw.specs.declared.node.Node.{Node}
use Rattle.psy_draw.specs.declared.node.Step.{Step}
use Rattle.psy_draw.specs.declared.folded.TheConstants.{ARROW, ARROW_END, COSTS, MORE_PHASES, MOST_PHASES, PHASE, POINT, RED}
use Rattle.psy_draw.specs.declared.graph.TheConstants.{CLUSTER_END, GRAPHS, GRAPHS_END}
use Rattle.psy_draw.specs.Graph.{opening}
use Rattle.psy_draw.specs.Homes.{Housed, home_at}
use Rattle.psy_page.specs.Templates.{fill}

-- ---- the graph of an agent

-- The note is inside an agent's graph: it doesn't begin another one.
abbrev pub is_inside : Note → Bool
is_inside (note.AgentGraph agent nodes edges) = false
is_inside _ = true

-- Of the notes behind an agent's first those of its graph
abbrev pub inside : List Note → List Note
inside notes = take (prefix_len is_inside notes) notes

-- The node that a note tells
abbrev pub node_of : Note → List Node
node_of (note.Node number point phase budget worst due) = record { point = point; phase = phase; budget = budget; worst = worst } ∷ []
node_of _ = []

-- The nodes of a graph, by number
abbrev pub nodes_of : List Note → List Node
nodes_of notes = flat_map node_of notes

-- A node, where it is one of a point
abbrev pub node_at : ℕ → Node → List Node
node_at point node = cond (node.point == point) (node ∷ []) []

-- The nodes of a point
abbrev pub nodes_at : ℕ → List Node → List Node
nodes_at point nodes = flat_map (node_at point) nodes

-- The greatest worst cost of some nodes
abbrev pub greatest_worst : List Node → ℕ
greatest_worst nodes = fold (λ most node. max node.worst most) 0 nodes

-- The step that leads from a point from one node to another: to which point, and at which date of the cycle its action starts
abbrev pub step_between : ℕ → Option Node → Option Node → List Step
step_between point (Some start) (Some end) = cond (start.point == point) (record { to = end.point; phase = start.phase } ∷ []) []
step_between point _ _ = []

-- The step from a point that an edge tells
abbrev pub step_of : List Node → ℕ → Note → List Step
step_of nodes point (note.EdgeOf from to len) = step_between point (slice_get nodes from) (slice_get nodes to)
step_of nodes point _ = []

-- The steps from a point
abbrev pub steps_from : List Node → List Note → ℕ → List Step
steps_from nodes notes point = flat_map (step_of nodes point) notes

-- The date at which a step's action starts, where it leads to this point
abbrev pub phase_to : ℕ → Step → List ℕ
phase_to point step = cond (step.to == point) (step.phase ∷ []) []

-- ---- its text

-- A byte of a label
abbrev pub quoted : ℕ → List ℕ
quoted b = cond (b == 34) (codes "\\\"") (cond (b == 92) (codes "\\\\") (cond (b == 38) (codes "&amp;") (b ∷ [])))

-- What makes a box red: its worst cost passes its budget
abbrev pub color : ℕ → ℕ → List ℕ
color worst budget = cond (nat_le worst budget) [] RED.now

-- The costs in a box: the worst, and the budget
abbrev pub costs_text : ℕ → ℕ → List ℕ
costs_text worst budget = fill COSTS.now (decimal worst ∷ decimal budget ∷ color worst budget ∷ [])

-- The box of a point: its number and its line in the program's text; its worst cost and its budget
abbrev pub box_text : List ℕ → ℕ → List ℕ → ℕ → ℕ → List ℕ
box_text agent point line worst budget =
    fill POINT.now (agent ∷ decimal point ∷ decimal point ∷ []) ++ flat_map quoted line ++ costs_text worst budget

-- The box of a point with these nodes; none where no action starts there
abbrev pub box_of : List ℕ → ℕ → List ℕ → List Node → List ℕ
box_of agent point line [] = []
box_of agent point line (node ∷ nodes) = box_text agent point line (greatest_worst (node ∷ nodes)) node.budget

-- The same in a graph, with the lines of the agent's points
abbrev pub point_text : List ℕ → List (List ℕ) → List Node → ℕ → List ℕ
point_text agent lines nodes point = box_of agent point (get_or lines point []) (nodes_at point nodes)

-- A date behind others
abbrev pub more_phase : ℕ → List ℕ
more_phase phase = fill PHASE.now (decimal phase ∷ [])

-- Dates behind the first: seven of them
abbrev pub more_phases : List ℕ → List ℕ
more_phases phases = flat_map more_phase (take MOST_PHASES phases) ++ cond (nat_le (length phases) MOST_PHASES) [] MORE_PHASES.now

-- The arrow from one point to another, with the dates of the cycle at which actions start that lead there; none where none does
abbrev pub arrow_by : List ℕ → ℕ → ℕ → List ℕ → List ℕ
arrow_by agent from to [] = []
arrow_by agent from to (phase ∷ phases) =
    fill ARROW.now (agent ∷ decimal from ∷ agent ∷ decimal to ∷ decimal phase ∷ []) ++ more_phases phases ++ ARROW_END.now

abbrev pub arrow_text : List ℕ → ℕ → List Step → ℕ → List ℕ
arrow_text agent from steps to = arrow_by agent from to (flat_map (phase_to to) steps)

-- The arrows from a point, to each of so many
abbrev pub arrows_text : List ℕ → List Node → List Note → ℕ → ℕ → List ℕ
arrows_text agent nodes notes count from = flat_map (arrow_text agent from (steps_from nodes notes from)) (range_with_len 0 count)

-- The cluster of an agent whose points have these lines, and whose graph is in these notes; with its processor, where one is told
abbrev pub cluster_text : List ℕ → Option ℕ → List (List ℕ) → List Note → List ℕ
cluster_text agent processor lines notes =
    opening agent processor ++ flat_map (point_text agent lines (nodes_of notes)) (range_with_len 0 (length lines))
    ++ flat_map (arrows_text agent (nodes_of notes) notes (length lines)) (range_with_len 0 (length lines)) ++ CLUSTER_END.now

-- Of lists of lines the first, and those behind it
abbrev pub first_lines : List (List (List ℕ)) → List (List ℕ)
first_lines [] = []
first_lines (lines ∷ more) = lines

abbrev pub more_lines : List (List (List ℕ)) → List (List (List ℕ))
more_lines [] = []
more_lines (lines ∷ more) = more

-- The clusters of the agents whose graphs these notes tell, with their processors, and with the lines of their points, agent by agent
abbrev pub folded_clusters : List Housed → List (List (List ℕ)) → List Note → List ℕ
folded_clusters homes lines [] = []
folded_clusters homes lines (note.AgentGraph agent nodes edges ∷ notes) =
    cluster_text agent.now (home_at homes agent.now) (first_lines lines) (inside notes) ++ folded_clusters homes (more_lines lines) notes
folded_clusters homes lines (_ ∷ notes) = folded_clusters homes lines notes

-- The whole text
abbrev pub folded_of : List Housed → List (List (List ℕ)) → List Note → List ℕ
folded_of homes lines notes = GRAPHS.now ++ folded_clusters homes lines notes ++ GRAPHS_END.now
