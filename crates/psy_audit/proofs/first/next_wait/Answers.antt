-- What is left of the proof of `first::next_wait`.
use Rattle.std.proofs.Common.{◌≤◌, subst, arith}
use Rattle.std.specs.List.{All}
use Rattle.std.proofs.lemmas.List.{take_all}
use Rattle.psy_audit.specs.Apart.{IsSteady}
use Rattle.psy_audit.proofs.Edges.{sooner_still, waits_more}
use Rattle.psy_audit.proofs.first.next_wait.Goals as goal

pub waits-preserved : goal.waits-preserved
waits-preserved c =
    let waits = c.args.waits.now in
    let next = c.earlier-next.result in
    let mid = c.released-begun.result in
    let less : next ≤ mid = c.earlier-next.ensures.within in
    let near : next ≤ c.waits.next = omega (arith, c.released-begun.ensures.within, less) in
    record {
      behind = c.earlier-next.ensures.behind;
      within = omega (arith, near, c.waits.invariant.within);
      apart = waits_more c.args.cycle c.waits.next next near waits c.waits.wait-index _ c.waits-test.true c.waits.invariant.apart c.earlier-next.ensures.passed
          (sooner_still c.args.cycle mid next _ less c.released-begun.ensures.passed);
    }

pub returns-clause-steady : goal.returns-clause-steady
returns-clause-steady c =
    let waits = c.args.waits.now in
    subst (All (IsSteady c.args.cycle c.waits.next)) (take_all c.waits.wait-index waits (omega (arith, c.waits-test.false))) c.waits.invariant.apart
