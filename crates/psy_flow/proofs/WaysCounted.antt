-- What is counted behind the points of an agent's body says at what ways look, and what they send.
use Rattle.std.proofs.Common.{◌≡◌, ℕ, ◌<◌, true, List, [], length, get_or, Some, None, refl, sym, subst, arith}
use Rattle.std.specs.Prelude.{◌↔◌, nat_lt}
use Rattle.std.proofs.lemmas.Option.{slice_get-get_or}
use Rattle.psy_tree.specs.declared.unit.AgentDecl.{AgentDecl}
use Rattle.psy_tree.specs.declared.unit.Unit.{Unit as Whole}
use Rattle.psy_meaning.specs.Flow.{IsMostSends, MayLook}
use Rattle.psy_meaning.specs.Rest.{rest}
use Rattle.psy_flow.specs.declared.gauge.Gauge.TheVariants as gauge
use Rattle.psy_flow.specs.declared.tops.Tops.{Tops}
use Rattle.psy_flow.specs.Agents.{IsAgentOf, IsKnown}
use Rattle.psy_flow.specs.Costs.{AreCounts, to_point}
use Rattle.psy_flow.specs.Tops.{called, capped_tops, pieces_tops}
use Rattle.psy_flow.proofs.NextPoints.{points_of}
use Rattle.psy_flow.proofs.Silent.{looks_of_tops, most_of_tops}

module _ (unit : Whole) (number : ℕ) (agent : AgentDecl) (its : IsAgentOf unit number agent) (known : IsKnown unit number agent) (counts : List ℕ) (point : ℕ) (less : point < length agent.points) where
  pub told_looks : (variable : ℕ) → AreCounts (gauge.Looks variable) None (called []) agent.stmts counts → (nat_lt 0 (get_or counts point 0) ≡ true) ↔ MayLook unit.functions agent point variable
  told_looks variable are =
      let g = gauge.Looks variable in
      let tops : Tops = capped_tops g (pieces_tops g None (called []) (rest agent.stmts point)) in
      let inside : point < length counts = omega (arith, less, are.count, points_of unit number agent its known) in
      let is : get_or counts point 0 ≡ to_point tops = are.each point (get_or counts point 0) (slice_get-get_or counts point 0 inside) in
      subst (λ n. (nat_lt 0 n ≡ true) ↔ MayLook unit.functions agent point variable) (sym is) (looks_of_tops unit number agent known point variable tops refl)

  pub told_sends : (to stream : ℕ) → AreCounts (gauge.Sends stream) (Some to) (called []) agent.stmts counts → IsMostSends unit.functions agent point to stream (get_or counts point 0)
  told_sends to stream are =
      let g = gauge.Sends stream in
      let tops : Tops = capped_tops g (pieces_tops g (Some to) (called []) (rest agent.stmts point)) in
      let inside : point < length counts = omega (arith, less, are.count, points_of unit number agent its known) in
      let is : get_or counts point 0 ≡ to_point tops = are.each point (get_or counts point 0) (slice_get-get_or counts point 0 inside) in
      subst (IsMostSends unit.functions agent point to stream) (sym is) (most_of_tops unit number agent known point to stream tops refl)
