-- The processor demand criterion on the action graphs of all agents (Baruah, Rosier, Howell 1990).
use Rattle.std.specs.Prelude.{◌≡◌, ◌==◌, ℕ, ◌+◌, ◌*◌, ◌<◌, ◌≤◌, if◌then◌else◌, List, [], ◌∷◌, get_or, map}
use Rattle.std.specs.Prelude as list
use Rattle.std.specs.List.{range_with_len}
use Rattle.psy_base.specs.declared.edge.Edge.{Edge}
use Rattle.psy_base.specs.declared.limits.TheConstants.{PROCESSORS}
use Rattle.psy_base.specs.Paths.{FitsDueLast, IsGreatestWeight}

-- The demand of agents with these graphs over a length: the sum, over the agents, of the greatest budgets of a path of
-- actions of which the last is due within the length
abbrev pub IsDemand : List (List Edge) → ℕ → ℕ → Type 0
IsDemand [] length demand = demand ≡ 0
IsDemand (graph ∷ rest) length demand = (one others : ℕ) × IsGreatestWeight graph (FitsDueLast length) one × IsDemand rest length others
    × (demand ≡ one + others)

-- Over this length the demand is at most what the processor supplies in so many cycles a tick.
abbrev pub Suffices : List (List Edge) → ℕ → ℕ → Type 0
Suffices graphs quantum length = (demand : ℕ) × IsDemand graphs length demand × (demand ≤ quantum * length)

-- Over each length from 1 up to this one it suffices.
abbrev pub IsFeasible : List (List Edge) → ℕ → ℕ → Type 0
IsFeasible graphs quantum top = (length : ℕ) → 1 ≤ length → length ≤ top → Suffices graphs quantum length

-- The least length, up to this one, over which it doesn't, and the demand over it
pub record IsOverload (graphs : List (List Edge)) (quantum top length demand : ℕ) : Type 0 where
  pub some : 1 ≤ length
  pub within : length ≤ top
  pub is_demand : IsDemand graphs length demand
  pub passes : quantum * length < demand
  pub least : (less : ℕ) → 1 ≤ less → less < length → Suffices graphs quantum less

-- ---- by processor

-- By agent, its edges where its processor is this one, and none where it is another
abbrev pub edges_on : List ℕ → ℕ → List (List Edge) → List (List Edge)
edges_on homes processor graphs =
    map (λ agent. if get_or homes agent 0 == processor then get_or graphs agent [] else []) (range_with_len 0 (list.length graphs))

-- Each processor can supply what its own agents may demand, over each length from 1 up to this one.
abbrev pub AreFeasible : List ℕ → List (List Edge) → ℕ → ℕ → Type 0
AreFeasible homes graphs quantum top = (processor : ℕ) → processor < PROCESSORS → IsFeasible (edges_on homes processor graphs) quantum top

-- The least length, up to this one, over which some processor can't supply what its agents may demand; the least such processor, and the demand
-- of its agents over that length
pub record IsOverloadOn (homes : List ℕ) (graphs : List (List Edge)) (quantum top length processor demand : ℕ) : Type 0 where
  pub some : 1 ≤ length
  pub within : length ≤ top
  pub known : processor < PROCESSORS
  pub is_demand : IsDemand (edges_on homes processor graphs) length demand
  pub passes : quantum * length < demand
  pub least : (less other : ℕ) → 1 ≤ less → less < length → other < PROCESSORS → Suffices (edges_on homes other graphs) quantum less
  pub first : (other : ℕ) → other < processor → Suffices (edges_on homes other graphs) quantum length
