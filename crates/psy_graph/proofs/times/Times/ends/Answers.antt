-- What is left of the proof of `times::Times::ends`.
use Rattle.std.proofs.Common.{get_or, subst}
use Rattle.std.specs.List.{Contains}
use Rattle.std.proofs.lemmas.List.Elements.{Contains-get_or}
use Rattle.psy_meaning.specs.Timing.{following}
use Rattle.psy_graph.specs.Steps.{timing_by}
use Rattle.psy_graph.proofs.times.Times.ends.Goals as goal

pub end-requires-clause-some : goal.end-requires-clause-some
end-requires-clause-some c =
    let timing = timing_by c.args.self.now in
    let items = c.next-to-items.result.now in
    let here : Contains (following timing c.args.point) (get_or items c.next.to-index 0) = subst (λ xs. Contains xs (get_or items c.next.to-index 0)) c.next-to-items.ensures (Contains-get_or items c.next.to-index 0 c.next-test.true) in
    (c.requires.timed.within c.args.point (get_or items c.next.to-index 0) here).0

pub end-requires-clause-to : goal.end-requires-clause-to
end-requires-clause-to c =
    let timing = timing_by c.args.self.now in
    let items = c.next-to-items.result.now in
    let here : Contains (following timing c.args.point) (get_or items c.next.to-index 0) = subst (λ xs. Contains xs (get_or items c.next.to-index 0)) c.next-to-items.ensures (Contains-get_or items c.next.to-index 0 c.next-test.true) in
    (c.requires.timed.within c.args.point (get_or items c.next.to-index 0) here).1
