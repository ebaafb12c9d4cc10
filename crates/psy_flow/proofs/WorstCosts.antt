-- The counts behind the points of an agent's body are its greatest costs.
use Rattle.std.proofs.Common.{◌≡◌, ℕ, List, [], None, refl, sym, subst, ◌∙◌}
use Rattle.psy_base.specs.declared.limits.TheConstants.{COST}
use Rattle.psy_tree.specs.declared.unit.AgentDecl.{AgentDecl}
use Rattle.psy_tree.specs.declared.unit.Unit.{Unit as Whole}
use Rattle.psy_meaning.specs.Flow.{HasCost, IsCut}
use Rattle.psy_meaning.specs.Rest.{rest}
use Rattle.psy_flow.specs.declared.gauge.Gauge.TheVariants as gauge
use Rattle.psy_flow.specs.Agents.{IsAgentOf, IsKnown}
use Rattle.psy_flow.specs.Costs.{AreCosts, AreCounts}
use Rattle.psy_flow.specs.Tops.{called, capped_from, capped_tops, pieces_tops}
use Rattle.psy_flow.proofs.CappedCosts.{worst_cut}
use Rattle.psy_flow.proofs.NextPoints.{points_of}

pub costs_of_agent : (unit : Whole) (number : ℕ) (agent : AgentDecl) (row list : List ℕ) → IsAgentOf unit number agent → IsKnown unit number agent → row ≡ capped_from gauge.Steps [] unit.functions →
    AreCounts gauge.Steps None (called row) agent.stmts list → AreCosts unit agent list
costs_of_agent unit number agent row list its k e are =
    record {
      count = are.count ∙ sym (points_of unit number agent its k);
      each = λ point cost at.
          subst (IsCut (HasCost unit.functions agent point) COST) (sym (are.each point cost at))
          (worst_cut unit.functions agent point (capped_tops gauge.Steps (pieces_tops gauge.Steps None (called row) (rest agent.stmts point))) row k.none (k.goes_on point) e refl);
    }
