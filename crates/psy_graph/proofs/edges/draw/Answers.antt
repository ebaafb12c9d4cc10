-- What is left of the proof of `edges::draw`.
use Rattle.std.proofs.Common.{◌≡◌, ◌+◌, ◌++◌, ◌≤◌, [], ◌∷◌, length, length-append, ap, sym, refl, ◌∙◌, inr, arith}
use Rattle.std.proofs.lemmas.List.{length-map, map_more}
use Rattle.psy_meaning.specs.Timing.{following}
use Rattle.psy_graph.specs.declared.place.Place.{Place}
use Rattle.psy_graph.specs.Steps.{timing_by}
use Rattle.psy_graph.specs.Drawn.{place_of, node_of, edge_to, edges_from, first_edges}
use Rattle.psy_graph.proofs.Links.{place_point, first_none, first_more, first_longer}
use Rattle.psy_graph.proofs.edges.draw.Goals as goal

pub places-init : goal.places-init
places-init c =
    let none : length c.new-2.result ≡ 0 = ap length c.new-2.ensures in
    record { nodes = c.new.ensures; edges = c.new-2.ensures ∙ first_none (timing_by c.args.times.now) c.args.places.now; few = omega (arith, none) }

pub next-requires : goal.next-requires
next-requires c =
    omega (arith, place_point (timing_by c.args.times.now) c.requires.timed c.args.places.now c.requires.places c.places.from c.places-test.true, c.requires.timed.lists)

pub returns-then-len-next-clause-cause : goal.returns-then-len-next-clause-cause
returns-then-len-next-clause-cause c =
    let timing = timing_by c.args.times.now in
    let places = c.args.places.now in
    let from = c.places.from in
    let tos = following timing (place_of places from).point in
    let more : length (first_edges timing places (from + 1)) ≡ length (first_edges timing places from ++ edges_from timing places from) = ap length (first_more timing places from) in
    let before : length c.places.graph.edges ≡ length (first_edges timing places from) = ap length c.places.invariant.edges in
    let next : length c.next.result.now ≡ length tos = ap length c.next.ensures in
    let all : length (first_edges timing places (from + 1)) ≤ length (first_edges timing places (length places)) = first_longer timing places (from + 1) (length places) (omega (arith, c.places-test.true)) in
    inr (refl, omega (arith, more, before, next, all, c.len.ensures, c.if-len-next.true, length-append (first_edges timing places from) (edges_from timing places from), length-map tos (edge_to timing places from)))

pub places-preserved : goal.places-preserved
places-preserved c =
    let timing = timing_by c.args.times.now in
    let places = c.args.places.now in
    let from = c.places.from in
    let tos = following timing (place_of places from).point in
    let none : Place = record { point = 0; phase = 0 } in
    let next : length c.next.result.now ≡ length tos = ap length c.next.ensures in
    let edges = c.in_ok-add_node.ensures.edges in
    let count : length c.add_node.new.graph.edges ≡ length (c.places.graph.edges ++ edges_from timing places from) = ap length edges in
    record {
      nodes = c.in_ok-add_node.ensures.nodes ∙ ap (λ ns. ns ++ node_of timing (place_of places from) ∷ []) c.places.invariant.nodes ∙ sym (map_more (node_of timing) places from none c.places-test.true);
      edges = edges ∙ ap (λ es. es ++ edges_from timing places from) c.places.invariant.edges ∙ sym (first_more timing places from);
      few = omega (arith, count, next, c.len.ensures, c.if-len-next.false, length-append c.places.graph.edges (edges_from timing places from), length-map tos (edge_to timing places from));
    }
