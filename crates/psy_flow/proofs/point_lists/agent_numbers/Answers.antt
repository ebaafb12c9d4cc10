-- What is left of the proof of `point_lists::agent_numbers`.
use Rattle.std.proofs.Common.{ℕ, [], ◌∷◌, length, length-append, ap, subst, arith}
use Rattle.psy_meaning.specs.CodeWays.{place_of}
use Rattle.psy_flow.specs.Bits.{HasNumber}
use Rattle.psy_flow.specs.Listed.{AreNumbers}
use Rattle.psy_flow.proofs.WayRows.{each_after}
use Rattle.psy_flow.proofs.point_lists.agent_numbers.Goals as goal

pub points-preserved : goal.points-preserved
points-preserved c =
    let rows = c.args.rows.now in
    let code = c.args.code.now in
    let agent = c.args.agent in
    let point = c.points.point in
    let kept = c.points.invariant in
    let numbers = c.in_ok-numbers.numbers in
    let own : AreNumbers (HasNumber rows (place_of code agent point)) numbers = subst (λ (place : ℕ). AreNumbers (HasNumber rows place) numbers) c.place_at.ensures c.in_ok-numbers.ensures in
    record {
      count = omega (arith, ap length c.in_ok-push.ensures, length-append c.points.lists (numbers ∷ []), kept.count);
      each = each_after (λ p. AreNumbers (HasNumber rows (place_of code agent p))) c.points.lists _ numbers point c.in_ok-push.ensures kept.count kept.each own;
    }
