-- What is left of the proof of `edges::add_edges`.
use Rattle.std.proofs.Common.{◌≡◌, ℕ, ◌-◌, get_or, ap, subst, ◌∙◌, arith}
use Rattle.std.specs.List.{Contains}
use Rattle.std.proofs.lemmas.List.Elements.{Contains-get_or}
use Rattle.psy_base.specs.declared.edge.Edge.{Edge}
use Rattle.psy_meaning.specs.Timing.{following, end_date}
use Rattle.psy_graph.specs.Steps.{timing_by}
use Rattle.psy_graph.specs.Drawn.{place_of, edge_to}
use Rattle.psy_graph.proofs.Links.{place_point, leads_to, edge_same, edges_more, ends_at, end_late}
use Rattle.psy_graph.proofs.edges.add_edges.Goals as goal

abbrev weighing : Edge → ℕ → Edge
weighing e weight = record { from = e.from; to = e.to; len = e.len; due = e.due; weight = weight }

pub next-points-requires : goal.next-points-requires
next-points-requires c =
    let timing = timing_by c.args.times.now in
    omega (arith, place_point timing c.requires.timed c.args.places.now c.requires.places c.args.from c.requires.from, ap (λ n. n.point) c.requires.node, c.requires.timed.lists)

pub overflow_sub-edge : goal.overflow_sub-edge
overflow_sub-edge c =
    let timing = timing_by c.args.times.now in
    let node = c.args.node in
    let points = c.next-points.result.now in
    let to = get_or points c.points.k 0 in
    let is : get_or c.args.ends.now c.points.k 0 ≡ end_date timing node.phase to = ends_at (end_date timing node.phase) c.args.ends.now (following timing node.point) points c.points.k c.requires.ends c.next-points.ensures c.points-test.true in
    let here : Contains (following timing node.point) to = subst (λ tos. Contains tos to) c.next-points.ensures (Contains-get_or points c.points.k 0 c.points-test.true) in
    let w = c.requires.timed.within node.point to here in
    omega (arith, is, end_late c.distances.ensures.late timing c.requires.timed node.phase to w.0 w.1)

pub points-preserved : goal.points-preserved
points-preserved c =
    let timing = timing_by c.args.times.now in
    let places = c.args.places.now in
    let node = c.args.node in
    let from = c.args.from in
    let p = place_of places from in
    let points = c.next-points.result.now in
    let to = get_or points c.points.k 0 in
    let end = get_or c.args.ends.now c.points.k 0 in
    let is : end ≡ end_date timing node.phase to = ends_at (end_date timing node.phase) c.args.ends.now (following timing node.point) points c.points.k c.requires.ends c.next-points.ensures c.points-test.true in
    let here : Contains (following timing node.point) to = subst (λ tos. Contains tos to) c.next-points.ensures (Contains-get_or points c.points.k 0 c.points-test.true) in
    let there : Contains (following timing p.point) to = subst (λ n. Contains (following timing n) to) (ap (λ n. n.point) c.requires.node) here in
    let ends : end ≡ end_date timing p.phase to = is ∙ ap (λ n. end_date timing n to) (ap (λ n. n.phase) c.requires.node) in
    let number = leads_to c.distances.ensures.near timing c.requires.timed c.args.modulus c.requires.modulus places c.requires.places c.requires.near from to end c.seek.result c.requires.from there ends c.seek.ensures in
    let edge : Edge = record { from = from; to = c.seek.result; len = end - node.phase; due = node.due; weight = c.from.result } in
    let made : edge ≡ record { from = from; to = c.seek.result; len = end - node.phase; due = node.due; weight = node.budget } = ap (λ w. weighing edge w) c.from.ensures in
    edges_more (edge_to timing places from) c.args.edges.now c.points.edges c.push.new.self edge points c.points.k 0 c.points-test.true c.points.invariant c.in_ok-push.ensures.ok (edge_same timing places from to end c.seek.result node c.requires.node ends number edge made)
