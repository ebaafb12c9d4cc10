-- The action graph of an agent: its actions by point and phase, and which of them follow which (task graphs of processor demand:
-- Baruah, Rosier, Howell 1990).
use Rattle.std.specs.Prelude.{◌≡◌, ◌⊎◌, ℕ, ◌+◌, ◌<◌, ◌≤◌, ◌%◌, ◌↔◌, List, map, length, drop, Some, slice_get}
use Prim.Native.Nat.{◌∣◌}
use Rattle.std.specs.List.{All, AllPairs, Contains}
use Rattle.psy_base.specs.declared.edge.Edge.{Edge}
use Rattle.psy_base.specs.declared.limits.TheConstants.{NODES, EDGES}
use Rattle.psy_meaning.specs.Timing.{Timing, clock_at, following, budget_at, end_date, deadline, MayStart}

-- The periods of the clocks that the agent's `advance`s name
abbrev pub periods : Timing → List ℕ
periods timing = map (λ point. (clock_at timing point.clock).period) (drop 1 timing.points)

-- The least common multiple of some numbers: each divides it, and it divides each number that all of them divide.
pub record IsLeastCommonMultiple (numbers : List ℕ) (n : ℕ) : Type 0 where
  pub common : All (λ number. number ∣ n) numbers
  pub least : (m : ℕ) → All (λ number. number ∣ m) numbers → n ∣ m

-- The cycle of an agent: actions from one point whose dates differ by a multiple of it are due and end alike.
abbrev pub IsCycle : Timing → ℕ → Type 0
IsCycle timing cycle = IsLeastCommonMultiple (periods timing) cycle

-- A point, and the phase of a date in the agent's cycle
pub record Spot : Type 0 where
  pub point : ℕ
  pub phase : ℕ

-- Where an action from a point starts that starts at a date
abbrev pub spot_at : ℕ → ℕ → ℕ → Spot
spot_at cycle point start = record { point = point; phase = start % cycle }

-- Some action may start there.
abbrev pub IsMet : Timing → ℕ → Spot → Type 0
IsMet timing cycle spot = (start : ℕ) × MayStart timing spot.point start × (spot.phase ≡ start % cycle)

-- In order of the point, then of the phase
abbrev pub SpotBefore : Spot → Spot → Type 0
SpotBefore a b = (a.point < b.point) ⊎ ((a.point ≡ b.point) × (a.phase < b.phase))

-- All the spots that are met, and no others, in order
pub record AreSpots (timing : Timing) (cycle : ℕ) (spots : List Spot) : Type 0 where
  pub rise : AllPairs SpotBefore spots
  pub all : (spot : Spot) → Contains spots spot ↔ IsMet timing cycle spot

-- The edge of an action that may start at a date and reaches a point: from the number of its spot to that of the spot where
-- the next action starts.
pub record IsEdgeOf (timing : Timing) (cycle : ℕ) (spots : List Spot) (point start to : ℕ) (e : Edge) : Type 0 where
  pub starts : MayStart timing point start
  pub follows : Contains (following timing point) to
  pub from : slice_get spots e.from ≡ Some (spot_at cycle point start)
  pub into : slice_get spots e.to ≡ Some (spot_at cycle to (end_date timing start to))
  pub len : start + e.len ≡ end_date timing start to
  pub due : start + e.due ≡ deadline timing point start
  pub weight : e.weight ≡ budget_at timing point

-- In order of the spot where they begin, then of that to which they lead
abbrev pub EdgeBefore : Edge → Edge → Type 0
EdgeBefore a b = (a.from < b.from) ⊎ ((a.from ≡ b.from) × (a.to < b.to))

-- All edges of the actions that may start, and no others, in order
pub record AreEdges (timing : Timing) (cycle : ℕ) (spots : List Spot) (edges : List Edge) : Type 0 where
  pub rise : AllPairs EdgeBefore edges
  pub all : (e : Edge) → Contains edges e ↔ ((point start to : ℕ) × IsEdgeOf timing cycle spots point start to e)

-- The graph of an agent: its spots are the nodes, numbered in their order.
pub record IsGraph (timing : Timing) (spots : List Spot) (edges : List Edge) : Type 0 where
  pub cycle : ℕ
  pub is_cycle : IsCycle timing cycle
  pub nodes : AreSpots timing cycle spots
  pub links : AreEdges timing cycle spots edges

-- More spots are met than a graph may have nodes.
abbrev pub PassesNodes : Timing → Type 0
PassesNodes timing = (cycle : ℕ) × IsCycle timing cycle × (spots : List Spot) × AllPairs SpotBefore spots × All (IsMet timing cycle) spots
    × (NODES < length spots)

-- The graph has no more nodes than it may, but more edges.
abbrev pub PassesEdges : Timing → Type 0
PassesEdges timing = (spots : List Spot) × (edges : List Edge) × IsGraph timing spots edges × (length spots ≤ NODES) × (EDGES < length edges)
