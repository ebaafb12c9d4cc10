-- Paths that follow chosen edges: at each node one edge is chosen at most.
use Rattle.std.specs.Prelude.{◌≡◌, ℕ, ◌-◌, ◌*◌, ◌^◌, ◌<◌, ◌≤◌, min, List, [], ◌∷◌, Some, length, slice_get, ⊤}
use Rattle.psy_base.specs.declared.edge.Edge.{Edge}
use Rattle.psy_base.specs.declared.limits.TheConstants.{BUDGET, NODES}
use Rattle.psy_base.specs.Paths.{weight_of, length_of}
use Rattle.psy_rate.specs.Lines.{end_of}
use Rattle.psy_rate.specs.declared.line.TheConstants.{SCALE}

-- The edge that is chosen at a node: the one whose number stands there, if it begins there
abbrev pub IsChosen : List Edge → List ℕ → ℕ → Edge → Type 0
IsChosen graph chosen node e = (number : ℕ) × (slice_get chosen node ≡ Some number) × (slice_get graph number ≡ Some e) × (e.from ≡ node)

-- A path of chosen edges from a node
abbrev pub IsFollowed : List Edge → List ℕ → ℕ → List Edge → Type 0
IsFollowed graph chosen node [] = ⊤
IsFollowed graph chosen node (e ∷ path) = IsChosen graph chosen node e × IsFollowed graph chosen e.to path

-- One that comes back
pub record IsLoop (graph : List Edge) (chosen : List ℕ) (node : ℕ) (path : List Edge) : Type 0 where
  pub followed : IsFollowed graph chosen node path
  pub some : 1 ≤ length path
  pub back : end_of node path ≡ node

-- It comes back for the first time.
pub record IsRound (graph : List Edge) (chosen : List ℕ) (node : ℕ) (path : List Edge) : Type 0 where
  pub loop : IsLoop graph chosen node path
  pub first : (other : List Edge) → IsLoop graph chosen node other → length path ≤ length other

-- A closed path of chosen edges, to which chosen edges lead from a node, and which is steeper than a rate: it weighs more than the rate by its length
pub record IsSteeper (graph : List Edge) (chosen : List ℕ) (from rate : ℕ) (path : List Edge) : Type 0 where
  pub before : List Edge
  pub leads : IsFollowed graph chosen from before
  pub loop : IsLoop graph chosen (end_of from before) path
  pub passes : rate * length_of path < SCALE * weight_of path

-- A round with its weight, which is small, and its length; or the greatest number of 64 bits, where the length is more.
pub record IsWeighed (graph : List Edge) (chosen : List ℕ) (node weight len : ℕ) (path : List Edge) : Type 0 where
  pub round : IsRound graph chosen node path
  pub weighs : weight_of path ≡ weight
  pub small : weight ≤ BUDGET * NODES
  pub lasts : min (length_of path) (2 ^ 64 - 1) ≡ len
  pub long : 1 ≤ len
