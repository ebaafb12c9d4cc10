-- What is left of the proof of `laws::bounds_behind`.
use Rattle.std.proofs.Common.{◌+◌, ◌*◌, subst, length, get_or, arith}
use Rattle.psy_dates.specs.Beginnings.{behind}
use Rattle.psy_history.specs.Compiled.{coded, coded_behind, stated_behind}
use Rattle.psy_history.specs.Scripts.{order_of, stalls_of}
use Rattle.psy_meaning.specs.KnownWays.{OfText}
use Rattle.psy_run.specs.Bounds.{KeepsBoundsBehind}
use Rattle.psy_run.specs.Services.{compiled_plan}
use Rattle.psy_run.proofs.KeptBounds.{keeps_bounds}
use Rattle.psy_run.proofs.laws.bounds_behind.Goals as goal

pub returns : goal.returns
returns c plan state inputs script planned are its sound_for =
    let is = planned.stated in
    let unit = plan.unit in
    let code = plan.code in
    let nexts = plan.nexts in
    let ties = order_of unit script in
    let stalls = stalls_of script in
    let cycles = plan.until * unit.quantum in
    let opening = behind plan state in
    let s = coded_behind unit code nexts stalls inputs opening in
    let ways = OfText unit in
    let sound = c.by_text.ensures plan opening inputs stalls planned.fits is.buffers sound_for in
    let run = c.openings.ensures.run (coded unit code nexts stalls inputs) opening ways code (c.compiled.ensures.run unit code nexts stalls inputs is.compiled are) sound in
    let kept = keeps_bounds plan inputs script opening opening (λ stream. get_or plan.sizes.queues stream 0 + length (opening.messages stream)) is its (record {
      lawful = c.regular.ensures.lawful s ways code run;
      actions = c.alike_behind.ensures.actions unit code nexts stalls inputs opening is.compiled are sound;
      schedule = c.alike_behind.ensures.schedule unit code nexts stalls inputs opening is.compiled are sound ties;
      reaches = c.alike_behind.ensures.reaches unit code nexts stalls inputs opening is.compiled are sound ties (plan.until + 1) cycles;
      held = c.alike_behind.ensures.held unit code nexts stalls inputs opening is.compiled are sound plan.until;
      finishes = λ agent r supplied. c.on_time.ensures.finishes s ties plan.until cycles agent r supplied (omega arith);
      worked = λ agent r supplied. c.on_time.ensures.finished s ties plan.until (plan.until + 1) agent r supplied;
      reached = λ variable size n supplied sized. c.ring_sizes.ensures.reached s ways code run ties plan.until cycles variable size n supplied (omega arith) sized;
      most = λ stream less sized small. c.queue_sizes.ensures.most s ways code run plan.until stream (get_or plan.sizes.queues stream 0) less sized small;
    }) in
    -- the state stands for the same opening in the plan that is made of its program
    subst (λ code. KeepsBoundsBehind (stated_behind unit nexts stalls inputs (behind (record (compiled_plan unit nexts plan.sizes plan.until) { code = code }) state)) ties plan.sizes plan.until) planned.made kept
