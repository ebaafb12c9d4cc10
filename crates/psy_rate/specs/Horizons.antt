-- From which length on the supply is above the lines of all agents, and what follows for the demand. Agents are in groups, one
-- for each processor.
use Rattle.std.specs.Prelude.{◌≡◌, ◌⊎◌, ℕ, ◌-◌, ◌*◌, ◌≤◌, List, All}
use Rattle.std.specs.List.{Contains, sum_by}
use Rattle.psy_base.specs.declared.edge.Edge.{Edge}
use Rattle.psy_meaning.specs.Demand.{Suffices}
use Rattle.psy_rate.specs.declared.line.Rate.{Rate}
use Rattle.psy_rate.specs.declared.line.TheConstants.{SCALE}
use Rattle.psy_window.specs.Windows.{IsEdge}

-- The sums of a group's rates and of its intercepts
abbrev pub rate_of : List Rate → ℕ
rate_of lines = sum_by (λ line. line.rate) lines

abbrev pub intercept_of : List Rate → ℕ
intercept_of lines = sum_by (λ line. line.intercept) lines

-- With so many cycles a tick the supply over a length is at least the sum of the lines, and so it is over each greater one.
abbrev pub Covers : ℕ → List Rate → ℕ → Type 0
Covers quantum lines length = (rate_of lines ≤ quantum * SCALE) × (intercept_of lines ≤ (quantum * SCALE - rate_of lines) * length)

-- The horizon of a group is the least length like that.
pub record IsHorizonOf (quantum : ℕ) (lines : List Rate) (length : ℕ) : Type 0 where
  pub covers : Covers quantum lines length
  pub least : (less : ℕ) → Covers quantum lines less → length ≤ less

-- The horizon of all groups is the greatest of theirs, and 0 where there is none.
pub record IsHorizon (quantum : ℕ) (groups : List (List Rate)) (length : ℕ) : Type 0 where
  pub each : All (λ lines. (own : ℕ) × IsHorizonOf quantum lines own × (own ≤ length)) groups
  pub one : (length ≡ 0) ⊎ ((lines : List Rate) × Contains groups lines × IsHorizonOf quantum lines length)

-- Over each length from 1 up to this one the supply suffices for each group.
abbrev pub AreFeasible : List (List (List Edge)) → ℕ → ℕ → Type 0
AreFeasible groups quantum top = (length : ℕ) → 1 ≤ length → length ≤ top → All (λ graphs. Suffices graphs quantum length) groups

-- The edges of each graph lead from node to node.
abbrev pub AreDrawn : List (List (List Edge)) → Type 0
AreDrawn groups = All (All (λ graph. (nodes : ℕ) × All (IsEdge nodes) graph)) groups
