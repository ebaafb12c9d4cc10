-- What is left of the proof of `spreads::send_edges`.
use Rattle.std.proofs.Common.{◌≡◌, [], ◌∷◌, ◌++◌, map, length, length-append, get_or, sym, ap, subst, arith}
use Rattle.std.specs.List.{All}
use Rattle.std.proofs.lemmas.List.Elements.{All-push}
use Rattle.psy_base.specs.declared.edge.Edge.{Edge}
use Rattle.psy_lists.proofs.lemmas.Places.{each_more}
use Rattle.psy_meaning.specs.KnownWays.{Listed, Ways}
use Rattle.psy_meaning.specs.QueueSizes.{IsSendEdge}
use Rattle.psy_window.specs.Windows.{IsEdge}
use Rattle.psy_graph.specs.Graphs.{spot_of}
use Rattle.psy_sizes.proofs.Tables.{IsSentAt, all_sent, no_edge}
use Rattle.psy_sizes.proofs.spreads.send_edges.Goals as goal

pub edges-preserved : goal.edges-preserved
edges-preserved c =
    let ways : Ways = Listed c.args.ways.now in
    let agent = c.args.agent in
    let stream = c.args.stream in
    let nodes = c.args.graph.now.nodes in
    let edges = c.args.graph.now.edges in
    let old = c.edges.sent in
    let new = c.push.new.list in
    let sent = c.send_edge.result in
    let k = c.edges.edge-index in
    let kept = c.edges.invariant in
    let pushed : new ≡ old ++ sent ∷ [] = c.in_ok-push.ensures in
    let count : length new ≡ length (old ++ sent ∷ []) = ap length pushed in
    let one : IsSentAt ways agent stream nodes edges k sent =
    subst (λ ns. IsSendEdge ways agent stream (map spot_of ns) (get_or edges k no_edge) sent) c.as_slice.ensures
    (subst (λ es. IsSendEdge ways agent stream (map spot_of c.as_slice.result.now) (get_or es k no_edge) sent) c.as_slice-edge-items.ensures c.send_edge.ensures.sent) in
    let Lawful : Edge → Type 0 = IsEdge (length nodes) in
    let lawful : Lawful sent = subst (λ ns. IsEdge (length ns) sent) c.as_slice.ensures c.send_edge.ensures.edge in
    record {
      count = omega (arith, count, kept.count, length-append old (sent ∷ []));
      each = each_more (IsSentAt ways agent stream nodes edges) old new sent k kept.count kept.each one pushed;
      edges = subst (All Lawful) (sym pushed) (All-push Lawful old sent kept.edges lawful);
    }

pub returns-clause-sent : goal.returns-clause-sent
returns-clause-sent c =
    let edges = c.args.graph.now.edges in
    let kept = c.edges.invariant in
    let whole : length c.as_slice-edge-items.result.now ≡ length edges = ap length c.as_slice-edge-items.ensures in
    all_sent (Listed c.args.ways.now) c.args.agent c.args.stream c.args.graph.now.nodes edges c.edges.sent (omega (arith, kept.count, whole, c.edges-test.false, c.edges.auto.edge-index-end))
    (λ i d less. kept.each i d (omega (arith, less, kept.count)))
