-- The demand of all agents by their action graphs: the lists of it, and the tables by which they are found.
use Rattle.std.specs.Prelude.{◌≡◌, ℕ, ◌+◌, ◌*◌, ◌^◌, ◌<◌, ◌≤◌, List, map, length, slice_get, slice_index, Some}
use Rattle.std.specs.List.{All}
use Rattle.psy_base.specs.declared.edge.Edge.{Edge}
use Rattle.psy_base.specs.declared.limits.TheConstants.{WINDOW_CELLS}
use Rattle.psy_base.specs.Paths.{FitsDueLast, IsGreatestWeight}
use Rattle.psy_graph.specs.declared.graph.Graph.{Graph}
use Rattle.psy_window.specs.Windows.{IsEdge}

-- The edges of each graph
abbrev pub edges_of : List Graph → List (List Edge)
edges_of graphs = map (λ graph. graph.edges) graphs

-- A graph whose edges lead from node to node
abbrev pub IsDrawn : Graph → Type 0
IsDrawn graph = All (IsEdge (length graph.nodes)) graph.edges

-- The table by which the demand of a graph's agent is found has at most 4,000,000 cells: the graph's nodes times the lengths from 0 on.
abbrev pub HasCells : ℕ → Graph → Type 0
HasCells top graph = length graph.nodes * (top + 1) ≤ WINDOW_CELLS

-- It would have more.
abbrev pub PassesCells : ℕ → Graph → Type 0
PassesCells top graph = WINDOW_CELLS < length graph.nodes * (top + 1)

-- The list has, by length up to this one, the demand of the graph's agent: the greatest budget of a path whose last action is due within the length.
pub record AreWeights (top : ℕ) (graph : Graph) (list : List ℕ) : Type 0 where
  pub count : length list ≡ top + 1
  pub greatest : (within : ℕ) → within < top + 1 → IsGreatestWeight graph.edges (FitsDueLast within) (slice_index list within)
  pub small : All (λ weight. weight < 2 ^ 50) list

-- Each graph has one of these things.
pub record AreEach {X : Type 0} (Is : Graph → X → Type 0) (graphs : List Graph) (things : List X) : Type 0 where
  pub count : length things ≡ length graphs
  pub each : (number : ℕ) (graph : Graph) (thing : X) → slice_get graphs number ≡ Some graph → slice_get things number ≡ Some thing → Is graph thing
