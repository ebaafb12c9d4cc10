-- What is left of the proof of `agents::graph_by`.
use Rattle.std.proofs.Common.{◌≡◌, ◌⊎◌, ◌<◌, ◌≤◌, All, length, sym, subst, refl, inl, inr}
use Rattle.std.proofs.lemmas.Result.{IfOk-weaker, IfErr-weaker}
use Rattle.psy_base.specs.declared.limits.TheConstants.{NODES, EDGES}
use Rattle.psy_window.specs.Windows.{IsEdge}
use Rattle.psy_graph.specs.declared.fault.GraphFault.{GraphFault}
use Rattle.psy_graph.specs.declared.fault.GraphFault.TheVariants.{Edges as many_edges, Memory as no_memory}
use Rattle.psy_graph.specs.declared.graph.Graph.{Graph}
use Rattle.psy_graph.specs.Graphs.{IsGraphOf}
use Rattle.psy_graph.specs.Faults.{IsFaultOf}
use Rattle.psy_graph.specs.Steps.{timing_by}
use Rattle.psy_graph.specs.Places.{ArePlaces}
use Rattle.psy_graph.specs.Drawn.{first_edges, drawn}
use Rattle.psy_graph.proofs.Explored.{graph_is, edges_fit, passes_edges}
use Rattle.psy_graph.proofs.agents.graph_by.Goals as goal
use Rattle.psy_graph.proofs.agents.graph_by.Goals.{After-as_slice}

-- The places as they are drawn
are : (c : After-as_slice) → ArePlaces (timing_by c.args.times.now) c.as_slice.result.now
are c = subst (ArePlaces (timing_by c.args.times.now)) (sym c.as_slice.ensures) c.in_ok-places.ensures.places

pub returns-clause-graph : goal.returns-clause-graph
returns-clause-graph c =
    let timing = timing_by c.args.times.now in
    let places = c.as_slice.result.now in
    let is = graph_is c.distances.ensures.again c.distances.ensures.late timing c.requires places (are (goal.at.returns-clause-graph c).After-as_slice) in
    IfOk-weaker c.draw.result (λ graph. graph ≡ drawn timing places) (IsGraphOf timing) (λ graph e. subst (IsGraphOf timing) (sym e) is) c.draw.ensures.graph

pub returns-clause-edges : goal.returns-clause-edges
returns-clause-edges c =
    let timing = timing_by c.args.times.now in
    let places = c.as_slice.result.now in
    let fit = edges_fit c.distances.ensures.late timing c.requires places (are (goal.at.returns-clause-edges c).After-as_slice) in
    let Fit : Graph → Type 0 = λ graph. All (IsEdge (length graph.nodes)) graph.edges in
    IfOk-weaker c.draw.result (λ graph. graph ≡ drawn timing places) Fit (λ graph e. subst Fit (sym e) fit) c.draw.ensures.graph

pub returns-clause-cause : goal.returns-clause-cause
returns-clause-cause c =
    let timing = timing_by c.args.times.now in
    let places = c.as_slice.result.now in
    let few : length places ≤ NODES = subst (λ xs. length xs ≤ NODES) (sym c.as_slice.ensures) c.in_ok-places.ensures.few in
    let P : GraphFault → Type 0 = λ fault. (fault ≡ no_memory) ⊎ ((fault ≡ many_edges c.args.agent) × (EDGES < length (first_edges timing places (length places)))) in
    let Q : GraphFault → Type 0 = λ fault. (fault ≡ no_memory) ⊎ IsFaultOf timing c.args.agent fault in
    IfErr-weaker c.draw.result P Q (λ fault h. elim h [
      | inl e ↦ inl e
      | inr m ↦ inr (subst (IsFaultOf timing c.args.agent) (sym m.0) (refl, passes_edges c.distances.ensures.again c.distances.ensures.late timing c.requires places (are (goal.at.returns-clause-cause c).After-as_slice) few m.1))
    ]) c.draw.ensures.cause
