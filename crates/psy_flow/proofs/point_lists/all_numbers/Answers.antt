-- What is left of the proof of `point_lists::all_numbers`.
use Rattle.std.proofs.Common.{[], ◌∷◌, length, length-append, ap, arith}
use Rattle.psy_flow.specs.CodeLists.{AreAgentNumbers}
use Rattle.psy_flow.proofs.WayRows.{each_after}
use Rattle.psy_flow.proofs.point_lists.all_numbers.Goals as goal

pub agents-preserved : goal.agents-preserved
agents-preserved c =
    let kept = c.agents.invariant in
    let own = c.in_ok-own.own in
    record {
      count = omega (arith, ap length c.in_ok-push.ensures, length-append c.agents.lists (own ∷ []), kept.count);
      each = each_after (AreAgentNumbers c.args.rows.now c.args.code.now) c.agents.lists _ own c.agents.agent c.in_ok-push.ensures kept.count kept.each c.in_ok-own.ensures;
    }
