-- What is left of the proof of `laws::bounds`.
use Rattle.std.proofs.Common.{◌+◌, ◌*◌, ◌≤◌, get_or, arith}
use Rattle.psy_history.specs.Actions.{plain}
use Rattle.psy_history.specs.Compiled.{coded}
use Rattle.psy_history.specs.Executors.{by_code, by_statements}
use Rattle.psy_history.specs.Scripts.{order_of, stalls_of}
use Rattle.psy_history.specs.Summary.{most_held}
use Rattle.psy_meaning.specs.KnownWays.{OfText}
use Rattle.psy_run.proofs.KeptBounds.{keeps_bounds}
use Rattle.psy_run.proofs.laws.bounds.Goals as goal

pub returns : goal.returns
returns c plan inputs script is are its =
    let ties = order_of plan.unit script in
    let stalls = stalls_of script in
    let cycles = plan.until * plan.unit.quantum in
    let s = coded plan.unit plan.code plan.nexts stalls inputs in
    let ways = OfText plan.unit in
    let run = c.compiled.ensures.run plan.unit plan.code plan.nexts stalls inputs is.compiled are in
    keeps_bounds plan inputs script (plain plan.unit plan.nexts (by_code plan.code)) (plain plan.unit plan.nexts (by_statements plan.unit)) (λ stream. get_or plan.sizes.queues stream 0) is its (record {
      lawful = c.regular.ensures.lawful s ways plan.code run;
      actions = c.alike.ensures.actions plan.unit plan.code plan.nexts stalls inputs is.compiled are;
      schedule = c.alike.ensures.schedule plan.unit plan.code plan.nexts stalls inputs is.compiled are ties;
      reaches = c.alike.ensures.reaches plan.unit plan.code plan.nexts stalls inputs is.compiled are ties (plan.until + 1) cycles;
      held = c.alike.ensures.held plan.unit plan.code plan.nexts stalls inputs is.compiled are plan.until;
      finishes = λ agent r supplied. c.on_time.ensures.finishes s ties plan.until cycles agent r supplied (omega arith);
      worked = λ agent r supplied. c.on_time.ensures.finished s ties plan.until (plan.until + 1) agent r supplied;
      reached = λ variable size n supplied sized. c.ring_sizes.ensures.reached s ways plan.code run ties plan.until cycles variable size n supplied (omega arith) sized;
      most = λ stream less sized small.
          (let held : most_held s plan.until stream ≤ get_or plan.sizes.queues stream 0 + 0 = c.queue_sizes.ensures.most s ways plan.code run plan.until stream (get_or plan.sizes.queues stream 0) less sized small in
          omega (arith, held));
    })
