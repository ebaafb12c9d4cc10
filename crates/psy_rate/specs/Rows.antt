-- A row of cells, one for each node: by how much a path from the node weighs more than the rate by the time until it is due.
use Rattle.std.specs.Prelude.{◌≡◌, ◌⊎◌, ℕ, ◌+◌, ◌-◌, ◌*◌, ◌<◌, ◌≤◌, List, ◌∷◌, Option, MatchOption, length, max, get_or}
use Rattle.psy_base.specs.declared.edge.Edge.{Edge}
use Rattle.psy_base.specs.declared.limits.TheConstants.{BUDGET, EDGES}
use Rattle.psy_base.specs.Paths.{IsPathFrom, weight_of}
use Rattle.psy_rate.specs.Lines.{due_of}
use Rattle.psy_rate.specs.declared.line.TheConstants.{SCALE}

-- What an edge gives over the cell of the node where it ends: its own excess, or with that cell behind it, or 0.
abbrev pub excess : ℕ → Edge → ℕ → ℕ
excess rate e behind = max (SCALE * e.weight - rate * e.due) (SCALE * e.weight + behind - rate * e.len)

-- An edge is among the last `seen` edges of the graph.
abbrev pub IsSeen : List Edge → ℕ → Edge → Type 0
IsSeen graph seen e = (at : ℕ) × (at < length graph) × (length graph ≤ at + seen) × (get_or graph at e ≡ e)

-- The excess of a path is at most n.
abbrev pub IsWithin : ℕ → ℕ → List Edge → Type 0
IsWithin rate n path = SCALE * weight_of path ≤ rate * due_of path + n

-- n is the excess of a path from the node. It is at least that of each path of at most `count` edges, and of each of one edge
-- more whose first edge is among the last `seen`.
pub record IsCell (graph : List Edge) (seen rate count node n : ℕ) : Type 0 where
  pub most : (path : List Edge) → IsPathFrom graph node path → length path ≤ count → IsWithin rate n path
  pub more : (e : Edge) (path : List Edge) → IsSeen graph seen e → e.from ≡ node → IsPathFrom graph e.to path → length path ≤ count → IsWithin rate n (e ∷ path)
  pub one : (path : List Edge) × IsPathFrom graph node path × (SCALE * weight_of path ≡ rate * due_of path + n)
  pub small : n ≤ SCALE * BUDGET * (EDGES * count + seen)

-- A row of cells
abbrev pub IsRow : List Edge → ℕ → ℕ → ℕ → List ℕ → Type 0
IsRow graph seen rate count row = (node : ℕ) → node < length row → IsCell graph seen rate count node (get_or row node 0)

-- None of the last `seen` edges gives more than the cell of the node where it begins.
abbrev pub IsSettled : List Edge → ℕ → ℕ → List ℕ → Type 0
IsSettled graph seen rate row = (e : Edge) → IsSeen graph seen e → excess rate e (get_or row e.to 0) ≤ get_or row e.from 0

-- How the row came from an earlier one by the last `seen` edges: no cell fell; it is the same and settled, or the cell of the
-- node that is told grew.
pub record HasGone (graph : List Edge) (seen rate : ℕ) (before row : List ℕ) (last : Option ℕ) : Type 0 where
  pub size : length row ≡ length before
  pub grows : (node : ℕ) → get_or before node 0 ≤ get_or row node 0
  pub outcome : MatchOption last ((row ≡ before) × IsSettled graph seen rate row) (λ node. (node < length row) × (get_or before node 0 < get_or row node 0))

-- n is the greatest of the first `seen` cells, or 0 where there is none.
pub record IsGreatest (row : List ℕ) (seen n : ℕ) : Type 0 where
  pub most : (node : ℕ) → node < seen → get_or row node 0 ≤ n
  pub one : (n ≡ 0) ⊎ ((node : ℕ) × (node < length row) × (get_or row node 0 ≡ n))
