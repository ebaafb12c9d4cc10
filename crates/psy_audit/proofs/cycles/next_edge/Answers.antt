-- What is left of the proof of `cycles::next_edge`.
use Rattle.std.proofs.Common.{◌≤◌, subst, arith}
use Rattle.std.specs.List.{All}
use Rattle.std.proofs.lemmas.List.{take_all}
use Rattle.psy_audit.proofs.Edges.{IsApart, apart_more, cycles_steady, sooner_still}
use Rattle.psy_audit.proofs.cycles.next_edge.Goals as goal

pub its-preserved : goal.its-preserved
its-preserved c =
    let its = c.args.its.now in
    let next = c.earlier-next.result in
    let mid = c.earlier-begun.result in
    let less : next ≤ mid = c.earlier-next.ensures.within in
    let near : next ≤ c.its.next = omega (arith, c.earlier-begun.ensures.within, less) in
    record {
      behind = c.earlier-next.ensures.behind;
      within = omega (arith, near, c.its.invariant.within);
      apart = apart_more c.args.cycle c.its.next next near its c.its.segment-index _ c.its-test.true c.its.invariant.apart c.earlier-next.ensures.passed
          (sooner_still c.args.cycle mid next _ less c.earlier-begun.ensures.passed);
    }

pub returns-clause-same : goal.returns-clause-same
returns-clause-same c = λ k low high.
    let its = c.args.its.now in
    let all = subst (All (IsApart c.args.cycle c.its.next)) (take_all c.its.segment-index its (omega (arith, c.its-test.false))) c.its.invariant.apart in
    cycles_steady c.args.cycle c.its.next k low high its all
