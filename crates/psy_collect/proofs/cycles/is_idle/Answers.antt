-- What is left of the proof of `cycles::is_idle`.
use Rattle.std.proofs.Common.{◌∙◌, ap, sym}
use Rattle.std.specs.List.{list_all}
use Rattle.psy_collect.specs.Keeping.{rests}
use Rattle.psy_dates.specs.declared.seat.Seat.{Seat}
use Rattle.psy_collect.proofs.Idle.{idle}
use Rattle.psy_collect.proofs.Steps.{cycle_due, cycle_whole, inside}
use Rattle.psy_collect.proofs.cycles.is_idle.Goals as goal

pub returns-then-is_none : goal.returns-then-is_none
returns-then-is_none c = record {
  idle = λ rest kept running.
      let p = c.args.kernel.now in
      idle p kept running c.plan-plan.ensures.fits c.plan-plan.ensures.inputs c.plan-plan.ensures.script c.fitting.ensures c.regular.ensures.lawful c.on_time.ensures.earlier c.on_time.ensures.finished
      (cycle_whole p c.args.cycle c.requires.due) (inside p kept running (cycle_due p c.args.cycle c.requires.due)) c.shared.result.now c.shared.ensures.stands
      (ap (list_all (λ (seat : Seat). rests seat.phase)) (sym c.as_slice.ensures.value) ∙ sym c.all_rest.ensures ∙ rest);
}
