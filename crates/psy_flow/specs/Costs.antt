-- The greatest costs from the points of agents, and what is counted from the end of a body to its head.
use Rattle.std.specs.Prelude.{◌≡◌, ℕ, ◌+◌, List, map, length, Option, Some, unwrap_or, slice_get}
use Rattle.psy_base.specs.declared.limits.TheConstants.{COST}
use Rattle.psy_tree.specs.declared.unit.AgentDecl.{AgentDecl}
use Rattle.psy_tree.specs.declared.unit.Stmt.{Stmt}
use Rattle.psy_tree.specs.declared.unit.Unit.{Unit as Whole}
use Rattle.psy_meaning.specs.Flow.{HasCost, IsCut}
use Rattle.psy_meaning.specs.Rest.{Rests, rest, rests_of_list}
use Rattle.psy_flow.specs.declared.gauge.Gauge.{Gauge}
use Rattle.psy_flow.specs.declared.tops.Tops.{Tops}
use Rattle.psy_flow.specs.Tops.{and_on, pieces_tops, capped_tops}

-- The greatest cost of an action from each point of an agent, cut at 1,000,000,000
pub record AreCosts (unit : Whole) (agent : AgentDecl) (costs : List ℕ) : Type 0 where
  pub count : length costs ≡ length agent.points
  pub each : (point cost : ℕ) → slice_get costs point ≡ Some cost → IsCut (HasCost unit.functions agent point) COST cost

-- The greatest costs, by agent and point
pub record AreAllCosts (unit : Whole) (costs : List (List ℕ)) : Type 0 where
  pub count : length costs ≡ length unit.agents
  pub each : (number : ℕ) (agent : AgentDecl) (list : List ℕ) → slice_get unit.agents number ≡ Some agent → slice_get costs number ≡ Some list
      → AreCosts unit agent list

-- ---- counts to a next point

-- What the ways to a point count at most; 0 where there is none
abbrev pub to_point : Tops → ℕ
to_point t = unwrap_or t.to 0

-- The greatest counts behind each of these rests, where something stands behind all of them
abbrev pub counts_then : Gauge → Option ℕ → (ℕ → ℕ) → Rests → Tops → List ℕ
counts_then g wanted calls rests last = map (λ r. to_point (capped_tops g (and_on (pieces_tops g wanted calls r) last))) rests

-- The greatest count behind each point of a body, by point
pub record AreCounts (g : Gauge) (wanted : Option ℕ) (calls : ℕ → ℕ) (stmts : List Stmt) (counts : List ℕ) : Type 0 where
  pub count : length counts ≡ length (rests_of_list stmts) + 1
  pub each : (point count : ℕ) → slice_get counts point ≡ Some count → count ≡ to_point (capped_tops g (pieces_tops g wanted calls (rest stmts point)))
