-- What is left of the proof of `cycles::cycles_in`.
use Rattle.std.proofs.Common.{◌≤◌, ◌-◌, ℕ, cond, arith}
use Rattle.std.specs.List.{list_any}
use Rattle.psy_audit.specs.Courses.{has_cycle}
use Rattle.psy_audit.proofs.Walks.{at_most, count_behind}
use Rattle.psy_audit.proofs.cycles.cycles_in.Goals as goal

pub changes-preserved : goal.changes-preserved
changes-preserved c =
    let its = c.args.its.now in
    let p = λ (cycle : ℕ). list_any (has_cycle cycle) its in
    let cycle = c.changes.cycle in
    let next = c.next_edge-next.result in
    let more = count_behind p cycle next c.next_edge-next.ensures.behind c.next_edge-next.ensures.same in
    let most : cond (p cycle) (next - cycle) 0 ≤ next - cycle = at_most (p cycle) (next - cycle) in
    record {
      within = c.next_edge-next.ensures.within;
      few = omega (arith, c.changes.invariant.few, c.had_between-count.ensures, most, c.next_edge-next.ensures.behind);
      counted = omega (arith, c.changes.invariant.counted, c.had_between-count.ensures, more);
    }
