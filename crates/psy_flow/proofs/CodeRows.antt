-- The lists of ways through code, by agent.
use Rattle.std.proofs.Common.{◌≡◌, ℕ, ◌<◌, List, length, Some, ap, ◌∙◌, arith}
use Rattle.std.specs.Prelude.{slice_get}
use Rattle.std.proofs.lemmas.Option.{get_or_from_slice_get, slice_get-get_or}
use Rattle.psy_code.specs.declared.code.Code.{Code}
use Rattle.psy_tree.specs.declared.unit.AgentDecl.{AgentDecl}
use Rattle.psy_tree.specs.declared.unit.Unit.{Unit as Whole}
use Rattle.psy_tree.specs.Parts.{agent_at, no_agent}
use Rattle.psy_meaning.specs.CodeWays.{CanWalk, agent_code_at}
use Rattle.psy_meaning.specs.ListedWays.{AreByPoint, points_of}
use Rattle.psy_flow.specs.Listed.{AreOf}
use Rattle.psy_flow.proofs.WayRows.{counts_same}

pub by_number : {X : Type 0} (unit : Whole) (Are : ℕ → ℕ → X → Type 0) (lists : List (List X)) → length lists ≡ length unit.agents →
    ((number : ℕ) (list : List X) → slice_get lists number ≡ Some list → AreOf (agent_at unit number) (Are number) list) → AreByPoint (points_of unit) Are lists
by_number {X} unit Are lists count each = record {
  counts = counts_same lists unit.agents count (λ i list a at also. (each i list at).count ∙ ap (λ (b : AgentDecl). length b.points) (get_or_from_slice_get unit.agents i a no_agent also));
  each = λ number point list one at also. (each number list at).each point one also;
}

-- An agent has as many points in the code as in its program.
pub same_points : (unit : Whole) (code : Code) → CanWalk unit code → (agent : ℕ) → agent < length code.agents → length (agent_code_at code agent).points ≡ length (agent_at unit agent).points
same_points unit code walk agent less =
    walk.points agent (agent_at unit agent) (agent_code_at code agent)
    (slice_get-get_or unit.agents agent no_agent (omega (arith, less, walk.agents)))
    (slice_get-get_or code.agents agent _ less)
