-- What is left of the proof of `agents::build_by`.
use Rattle.std.proofs.Common.{◌≡◌, ◌⊎◌, ℕ, ◌<◌, List, [], ◌∷◌, ◌++◌, All, length, length-append, get_or, Err, IfErr, ap, sym, subst, inl, inr, arith, rules}
use Rattle.std.proofs.lemmas.Option.{slice_get_within, get_or_from_slice_get}
use Rattle.std.proofs.lemmas.List.Elements.{All-push}
use Rattle.psy_lists.proofs.lemmas.Places.{each_more}
use Rattle.psy_tree.specs.declared.unit.Unit.{Unit}
use Rattle.psy_meaning.specs.Graph.{PassesEdges, PassesNodes}
use Rattle.psy_meaning.specs.RingSizes.{agent_timing}
use Rattle.psy_window.specs.Windows.{IsEdge}
use Rattle.psy_graph.specs.declared.fault.GraphFault.{GraphFault}
use Rattle.psy_graph.specs.declared.fault.GraphFault.TheVariants.{Nodes, Edges, Memory}
use Rattle.psy_graph.specs.declared.graph.Graph.{Graph}
use Rattle.psy_graph.specs.Graphs.{HasGraphBy, HaveGraphsBeforeBy, IsCauseBy}
use Rattle.psy_graph.specs.Faults.{IsFaultOf}
use Rattle.psy_graph.proofs.agents.build_by.Goals as goal

-- A fault of an agent before which all have graphs is the cause.
cause_is : (unit : Unit) (nexts : List (List (List ℕ))) (number : ℕ) (fault : GraphFault) → number < length unit.agents → HaveGraphsBeforeBy unit nexts number → IsFaultOf (agent_timing unit nexts number) number fault → IsCauseBy unit nexts fault
cause_is unit nexts number (Nodes agent) less before (same, passes) =
    (subst (HaveGraphsBeforeBy unit nexts) (sym same) before, omega (arith, less, same), subst (λ n. PassesNodes (agent_timing unit nexts n)) (sym same) passes)
cause_is unit nexts number (Edges agent) less before (same, passes) =
    (subst (HaveGraphsBeforeBy unit nexts) (sym same) before, omega (arith, less, same), subst (λ n. PassesEdges (agent_timing unit nexts n)) (sym same) passes)
cause_is unit nexts number Memory less before none = none

pub returns-in_err-graph_of-clause-cause : goal.returns-in_err-graph_of-clause-cause
returns-in_err-graph_of-clause-cause c =
    let unit = c.args.unit.now in
    let fault = c.in_err-graph_of.field-0.0 in
    let none : Graph = record { nodes = []; edges = [] } in
    let nexts = c.args.ways.now.nexts in
    let less : c.agents.number < length unit.agents = omega (arith, c.agents-test.true, c.agents.auto.number-end, c.len-number-end.ensures) in
    let before : HaveGraphsBeforeBy unit nexts c.agents.number = λ n l. (get_or c.agents.graphs n none, c.agents.invariant.each n none l) in
    let Q : GraphFault → Type 0 = λ f. (f ≡ Memory) ⊎ IsCauseBy unit nexts f in
    let is : Q fault = elim c.in_err-graph_of.ensures.cause [ inl e ↦ inl e | inr h ↦ inr (cause_is unit nexts c.agents.number fault less before h) ] in
    let e : c.from_residual.result ≡ Err fault = search rules in
    subst (λ r. IfErr r Q) (sym e) is

pub agents-preserved : goal.agents-preserved
agents-preserved c =
    let unit = c.args.unit.now in
    let old = c.agents.graphs in let new = c.push.new.list in
    let graph = c.in_ok-graph_of.field-0 in
    let pushed : new ≡ old ++ graph ∷ [] = c.in_ok-push.ensures in
    let count : length new ≡ length (old ++ graph ∷ []) = ap length pushed in
    let Fit : Graph → Type 0 = λ g. All (IsEdge (length g.nodes)) g.edges in
    record {
      count = omega (arith, count, c.agents.invariant.count, length-append old (graph ∷ []));
      each = each_more (λ n g. HasGraphBy unit c.args.ways.now.nexts n g) old new graph c.agents.number c.agents.invariant.count c.agents.invariant.each c.in_ok-graph_of.ensures.graph pushed;
      edges = subst (All Fit) (sym pushed) (All-push Fit old graph c.agents.invariant.edges c.in_ok-graph_of.ensures.edges);
    }

pub returns-clause-graphs : goal.returns-clause-graphs
returns-clause-graphs c =
    let unit = c.args.unit.now in
    let graphs = c.agents.graphs in
    record {
      count = omega (arith, c.agents.invariant.count, c.agents-test.false, c.agents.auto.number-end, c.len-number-end.ensures);
      each = λ n graph e. (let l = slice_get_within graphs n graph e in
          subst (HasGraphBy unit c.args.ways.now.nexts n) (get_or_from_slice_get graphs n graph graph e) (c.agents.invariant.each n graph (omega (arith, l, c.agents.invariant.count))));
    }
