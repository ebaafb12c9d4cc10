-- Paths of a graph, which is the list of its edges (processor demand of task graphs: Baruah, Rosier, Howell 1990).
use Rattle.std.specs.Prelude.{◌≡◌, ℕ, ◌+◌, ◌≤◌, List, [], ◌∷◌, ⊤}
use Rattle.std.specs.List.{Contains}
use Rattle.psy_base.specs.declared.edge.Edge.{Edge}

-- A path from a node: each edge is one of the graph's, and begins where the one before it ends.
abbrev pub IsPathFrom : List Edge → ℕ → List Edge → Type 0
IsPathFrom graph node [] = ⊤
IsPathFrom graph node (e ∷ path) = Contains graph e × (e.from ≡ node) × IsPathFrom graph e.to path

-- A path, wherever it begins. The empty one is one.
abbrev pub IsPath : List Edge → List Edge → Type 0
IsPath graph path = (node : ℕ) × IsPathFrom graph node path

-- The sum of its weights
abbrev pub weight_of : List Edge → ℕ
weight_of [] = 0
weight_of (e ∷ path) = e.weight + weight_of path

-- The sum of its lengths
abbrev pub length_of : List Edge → ℕ
length_of [] = 0
length_of (e ∷ path) = e.len + length_of path

-- Begun at a time, its last action is due by another.
abbrev pub DueBy : ℕ → ℕ → List Edge → Type 0
DueBy by start [] = ⊤
DueBy by start (e ∷ []) = start + e.due ≤ by
DueBy by start (e ∷ path) = DueBy by (start + e.len) path

-- It fits a length by its last action's due: the lengths before its last edge and that edge's due are at most the length.
abbrev pub FitsDueLast : ℕ → List Edge → Type 0
FitsDueLast length path = DueBy length 0 path

-- It fits a length with its first action free: the lengths behind its first edge are at most the length.
abbrev pub FitsFirstFree : ℕ → List Edge → Type 0
FitsFirstFree length [] = ⊤
FitsFirstFree length (e ∷ path) = length_of path ≤ length

-- The greatest weight of the paths that fit
pub record IsGreatestWeight (graph : List Edge) (Fits : List Edge → Type 0) (n : ℕ) : Type 0 where
  -- one of them weighs so much
  pub one : (path : List Edge) × IsPath graph path × Fits path × (weight_of path ≡ n)
  -- and none more
  pub most : (path : List Edge) → IsPath graph path → Fits path → weight_of path ≤ n
