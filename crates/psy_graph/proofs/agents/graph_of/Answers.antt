-- What is left of the proof of `agents::graph_of`.
use Rattle.std.proofs.Common.{◌≡◌, ◌⊎◌, ◌<◌, List, [], ℕ, length, get_or, sym, ap, subst, ◌∙◌, inl, inr, arith}
use Rattle.std.proofs.lemmas.List.{get_or_default}
use Rattle.std.proofs.lemmas.Result.{IfErr-weaker, IfOk-weaker}
use Rattle.psy_lists.proofs.lemmas.Results.{if_both}
use Rattle.psy_clock.specs.declared.clock.Clock.{Clock}
use Rattle.psy_tree.specs.declared.unit.AgentDecl.{AgentDecl}
use Rattle.psy_tree.specs.declared.unit.Point.{Point}
use Rattle.psy_tree.specs.Parts.{agent_at, no_agent}
use Rattle.psy_meaning.specs.ListedWays.{AreNextsFor}
use Rattle.psy_meaning.specs.RingSizes.{agent_timing}
use Rattle.psy_meaning.specs.Timing.{Timing}
use Rattle.psy_meaning.proofs.lemmas.ByPoint.{agents_count}
use Rattle.psy_graph.specs.declared.fault.GraphFault.{GraphFault}
use Rattle.psy_graph.specs.declared.fault.GraphFault.TheVariants.{Memory as no_memory}
use Rattle.psy_graph.specs.Graphs.{HasGraphBy, IsGraphOf, IsSmall, IsTimed}
use Rattle.psy_graph.specs.Faults.{IsFaultOf}
use Rattle.psy_graph.proofs.Timed.{timed_for}
use Rattle.psy_graph.proofs.agents.graph_of.Goals as goal
use Rattle.psy_graph.proofs.agents.graph_of.Goals.{After-as_slice-5}

abbrev timing : List Clock → List Point → List (List ℕ) → Timing
timing clocks points nexts = record { clocks = clocks; points = points; nexts = nexts }

-- The timing as it is told
told : (c : After-as_slice-5) → timing c.as_slice-3.result.now c.as_slice-4.result.now c.as_slice-5.result.now ≡ agent_timing c.args.unit.now c.args.ways.now.nexts c.args.number
told c =
    let unit = c.args.unit.now in
    let nexts = c.args.ways.now.nexts in
    let number = c.args.number in
    let agent = c.index-as_slice-number.result in
    let list = c.index-as_slice-number-2.result in
    let count = agents_count unit (λ a point. AreNextsFor (agent_at unit a)) nexts c.requires.ways.nexts in
    let less : number < length nexts = omega (arith, c.requires.number, count) in
    let own : agent ≡ agent_at unit number = c.index-as_slice-number.is ∙ ap (λ xs. get_or xs number agent) c.as_slice.ensures ∙ get_or_default unit.agents number agent no_agent c.requires.number in
    let lists : list ≡ get_or nexts number [] = c.index-as_slice-number-2.is ∙ ap (λ xs. get_or xs number list) c.as_slice-2.ensures ∙ get_or_default nexts number list [] less in
    let points : c.as_slice-4.result.now ≡ (agent_at unit number).points = c.as_slice-4.ensures ∙ ap (λ (a : AgentDecl). a.points) own in
    let follows : c.as_slice-5.result.now ≡ get_or nexts number [] = c.as_slice-5.ensures ∙ lists in
    ap (λ xs. timing xs c.as_slice-4.result.now c.as_slice-5.result.now) c.as_slice-3.ensures
    ∙ ap (λ xs. timing unit.clocks xs c.as_slice-5.result.now) points
    ∙ ap (timing unit.clocks (agent_at unit number).points) follows

pub graph_by-requires : goal.graph_by-requires
graph_by-requires c = subst IsTimed (sym (told (goal.at.graph_by-requires c).After-as_slice-5)) (timed_for c.args.unit.now c.args.ways.now c.requires.bare c.requires.ways c.args.number c.requires.number)

pub returns-clause-graph : goal.returns-clause-graph
returns-clause-graph c =
    let t = timing c.as_slice-3.result.now c.as_slice-4.result.now c.as_slice-5.result.now in
    let same = told (goal.at.returns-clause-graph c).After-as_slice-5 in
    IfOk-weaker c.graph_by.result (λ graph. IsGraphOf t graph × IsSmall graph) (HasGraphBy c.args.unit.now c.args.ways.now.nexts c.args.number) (λ graph h. (subst (λ k. IsGraphOf k graph) same h.0, h.1))
    (if_both c.graph_by.result (IsGraphOf t) IsSmall c.graph_by.ensures.graph c.graph_by.ensures.small)

pub returns-clause-cause : goal.returns-clause-cause
returns-clause-cause c =
    let t = timing c.as_slice-3.result.now c.as_slice-4.result.now c.as_slice-5.result.now in
    let same = told (goal.at.returns-clause-cause c).After-as_slice-5 in
    let number = c.args.number in
    let P : GraphFault → Type 0 = λ fault. (fault ≡ no_memory) ⊎ IsFaultOf t number fault in
    let Q : GraphFault → Type 0 = λ fault. (fault ≡ no_memory) ⊎ IsFaultOf (agent_timing c.args.unit.now c.args.ways.now.nexts number) number fault in
    IfErr-weaker c.graph_by.result P Q (λ fault h. elim h [ inl memory ↦ inl memory | inr at ↦ inr (subst (λ k. IsFaultOf k number fault) same at) ]) c.graph_by.ensures.cause
