-- What is left of the proof of `flow::worst`.
use Rattle.std.proofs.Common.{◌≡◌, ℕ, List, [], None, take, length, get_or, refl, sym, ap, subst, ◌∙◌, arith}
use Rattle.std.proofs.lemmas.Option.{get_or_from_slice_get, slice_get_read}
use Rattle.psy_base.specs.declared.limits.TheConstants.{COST}
use Rattle.psy_tree.specs.declared.unit.AgentDecl.{AgentDecl}
use Rattle.psy_meaning.specs.Rest.{rest}
use Rattle.psy_flow.specs.declared.gauge.Gauge.TheVariants as gauge
use Rattle.psy_flow.specs.Agents.{IsAgentOf}
use Rattle.psy_meaning.specs.Flow.{HasCost, IsCut}
use Rattle.psy_flow.specs.Tops.{called, capped_tops, capped_from, pieces_tops}
use Rattle.psy_flow.proofs.CappedCosts.{worst_cut}
use Rattle.psy_flow.proofs.NextPoints.{points_of}
use Rattle.psy_flow.proofs.flow.worst.Goals as goal

pub tops_from-tops-requires : goal.tops_from-tops-requires
tops_from-tops-requires c =
    let agent = c.index-as_slice-agent.result in
    let got = slice_get_read c.args.unit.now.agents (length c.args.unit.now.agents) c.args.agent agent refl c.requires.agent (c.index-as_slice-agent.is ∙ ap (λ agents. get_or agents c.args.agent agent) c.as_slice.ensures) in
    let its : IsAgentOf c.args.unit.now c.args.agent agent = (c.requires.text, got) in
    rw c.as_slice-2.ensures (omega (arith, points_of c.args.unit.now c.args.agent agent its (c.known.ensures c.args.unit.now c.args.agent agent its), c.requires.point agent got))

pub returns : goal.returns
returns c a got =
    let agent = c.index-as_slice-agent.result in
    let same : agent ≡ a = c.index-as_slice-agent.is ∙ ap (λ agents. get_or agents c.args.agent agent) c.as_slice.ensures ∙ get_or_from_slice_get c.args.unit.now.agents c.args.agent a agent got in
    let k = c.known.ensures c.args.unit.now c.args.agent a (c.requires.text, got) in
    let row : List ℕ = take (length c.as_slice-functions.result.now) c.costs_of_calls-costs.result in
    subst (IsCut (HasCost c.args.unit.now.functions a c.args.point) COST) (sym c.unwrap_or.ensures)
    (worst_cut c.args.unit.now.functions a c.args.point c.tops_from-tops.result row k.none (k.goes_on c.args.point) (c.costs_of_calls-costs.ensures ∙ ap (capped_from gauge.Steps []) c.as_slice-functions.ensures)
    (c.tops_from-tops.ensures ∙ ap (λ stmts. capped_tops gauge.Steps (pieces_tops gauge.Steps None (called row) (rest stmts c.args.point))) (c.as_slice-2.ensures ∙ ap (λ (x : AgentDecl). x.stmts) same)))
