-- What is left of the proof of `laws::bounds_by`.
use Rattle.std.proofs.Common.{◌+◌, ◌*◌, ◌≤◌, subst, arith}
use Rattle.psy_history.specs.Compiled.{coded}
use Rattle.psy_history.specs.Runs.{IsRun}
use Rattle.psy_history.specs.Scripts.{order_of, stalls_of}
use Rattle.psy_history.specs.Summary.{most_held}
use Rattle.psy_meaning.specs.KnownWays.{Listed}
use Rattle.psy_run.specs.Services.{meaning_by}
use Rattle.psy_run.proofs.KeptByCode.{code_keeps_bounds}
use Rattle.psy_run.proofs.laws.bounds_by.Goals as goal

pub returns : goal.returns
returns c plan inputs script is are its =
    let ties = order_of plan.unit script in
    let stalls = stalls_of script in
    let cycles = plan.until * plan.unit.quantum in
    let s = meaning_by plan.unit plan.code plan.nexts inputs script in
    let ways = Listed is.ways in
    let run : IsRun s ways plan.code = subst (λ nexts. IsRun (coded plan.unit plan.code nexts stalls inputs) ways plan.code) is.nexts (c.fitting.ensures plan.unit plan.code is.ways stalls inputs is.fits are) in
    code_keeps_bounds plan inputs script is its (record {
      lawful = c.regular.ensures.lawful s ways plan.code run;
      finishes = λ agent r supplied. c.on_time.ensures.finishes s ties plan.until cycles agent r supplied (omega arith);
      worked = λ agent r supplied. c.on_time.ensures.finished s ties plan.until (plan.until + 1) agent r supplied;
      reached = λ variable size n supplied sized. c.ring_sizes.ensures.reached s ways plan.code run ties plan.until cycles variable size n supplied (omega arith) sized;
      most = λ stream size less sized small.
          (let held : most_held s plan.until stream ≤ size + 0 = c.queue_sizes.ensures.most s ways plan.code run plan.until stream size less sized small in
          omega (arith, held));
    })
