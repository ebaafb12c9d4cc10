-- The nodes and edges of an agent's graph, made from the places where its actions start.
use Rattle.std.specs.Prelude.{ℕ, zero, suc, ◌-◌, ◌==◌, Bool, ◌&&◌, List, [], ◌++◌, map, length, get_or}
use Rattle.std.specs.List.{position_or_len}
use Rattle.psy_base.specs.declared.edge.Edge.{Edge}
use Rattle.psy_meaning.specs.Timing.{Timing, following, budget_at, end_date, deadline}
use Rattle.psy_graph.specs.declared.graph.Graph.{Graph}
use Rattle.psy_graph.specs.declared.graph.Node.{Node}
use Rattle.psy_graph.specs.declared.place.Place.{Place}
use Rattle.psy_graph.specs.Places.{place_at}

-- It is the same place.
abbrev pub is_place : Place → Place → Bool
is_place a b = (b.point == a.point) && (b.phase == a.phase)

-- The number of a place among the others
abbrev pub number_of : List Place → Place → ℕ
number_of places place = position_or_len (is_place place) places

-- The place of a number
abbrev pub place_of : List Place → ℕ → Place
place_of places number = get_or places number (record { point = 0; phase = 0 })

-- The node of a place
abbrev pub node_of : Timing → Place → Node
node_of timing place = record {
  point = place.point;
  phase = place.phase;
  due = deadline timing place.point place.phase - place.phase;
  budget = budget_at timing place.point;
}

-- The edge from the place of a number to a point that follows
abbrev pub edge_to : Timing → List Place → ℕ → ℕ → Edge
edge_to timing places from to =
    let place = place_of places from in
    record {
      from = from;
      to = number_of places (place_at timing to (end_date timing place.phase to));
      len = end_date timing place.phase to - place.phase;
      due = deadline timing place.point place.phase - place.phase;
      weight = budget_at timing place.point;
    }

-- The edges from the place of a number
abbrev pub edges_from : Timing → List Place → ℕ → List Edge
edges_from timing places from = map (edge_to timing places from) (following timing (place_of places from).point)

-- The edges from the first places
unfoldable pub first_edges : Timing → List Place → ℕ → List Edge
first_edges timing places zero = []
first_edges timing places (suc n) = first_edges timing places n ++ edges_from timing places n

-- The graph of these places
abbrev pub drawn : Timing → List Place → Graph
drawn timing places = record { nodes = map (node_of timing) places; edges = first_edges timing places (length places) }
