-- What is left of the proof of `edges::add_node`.
use Rattle.std.proofs.Common.{◌≡◌, map, length, ap, ◌∙◌, arith}
use Rattle.std.proofs.lemmas.List.{length-map}
use Rattle.psy_meaning.specs.Timing.{following, end_date, least, deadline}
use Rattle.psy_graph.specs.Steps.{timing_by}
use Rattle.psy_graph.specs.Drawn.{place_of}
use Rattle.psy_graph.proofs.Links.{place_point, deadline_late}
use Rattle.psy_graph.proofs.edges.add_node.Goals as goal

pub ends-requires-clause-point : goal.ends-requires-clause-point
ends-requires-clause-point c = place_point (timing_by c.args.times.now) c.requires.timed c.args.places.now c.requires.places c.args.from c.requires.from

pub budget-requires : goal.budget-requires
budget-requires c = place_point (timing_by c.args.times.now) c.requires.timed c.args.places.now c.requires.places c.args.from c.requires.from

pub least_of-requires : goal.least_of-requires
least_of-requires c =
    let timing = timing_by c.args.times.now in
    let p = place_of c.args.places.now c.args.from in
    let some = c.requires.timed.some p.point (place_point timing c.requires.timed c.args.places.now c.requires.places c.args.from c.requires.from) in
    let ends : c.as_slice.result.now ≡ map (end_date timing p.phase) (following timing p.point) = c.as_slice.ensures ∙ c.in_ok-ends.ensures in
    omega (arith, ap length ends, length-map (following timing p.point) (end_date timing p.phase), some)

pub overflow_sub-node : goal.overflow_sub-node
overflow_sub-node c =
    let timing = timing_by c.args.times.now in
    let p = place_of c.args.places.now c.args.from in
    let point = place_point timing c.requires.timed c.args.places.now c.requires.places c.args.from c.requires.from in
    let ends : c.as_slice.result.now ≡ map (end_date timing p.phase) (following timing p.point) = c.as_slice.ensures ∙ c.in_ok-ends.ensures in
    let due : c.least_of.result ≡ deadline timing p.point p.phase = c.least_of.ensures ∙ ap least ends in
    omega (arith, due, deadline_late c.distances.ensures.late timing c.requires.timed p.point p.phase point)
