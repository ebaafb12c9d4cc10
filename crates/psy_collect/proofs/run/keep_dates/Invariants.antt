-- What each loop of `run::keep_dates` keeps.
use Rattle.psy_collect.specs.Collected.{IsRunning, IsSameRun, steps_left}
use Rattle.psy_collect.proofs.run.keep_dates.Given as goal

abbrev pub invariant-steps : goal.invariant-steps
invariant-steps l =
    record {
      same : IsSameRun l.fn.kernel l.kernel;
      running : IsRunning l.kernel l.kept;
    }

-- The steps that are left
abbrev pub decreases-steps : goal.decreases-steps
decreases-steps l = steps_left l.kernel
