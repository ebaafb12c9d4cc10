-- What each loop of `run::pass_dates` keeps.
use Rattle.std.proofs.Common.{◌≡◌, ◌+◌, ◌-◌, ◌*◌, ◌≤◌, None, length}
use Rattle.psy_kernel.specs.Progress.{lines_told}
use Rattle.psy_run.proofs.run.pass_dates.Given as goal

abbrev pub invariant-stages : goal.invariant-stages
invariant-stages l =
    record {
      same : l.kernel ≡ record (l.fn.kernel) { dates = l.kernel.dates; cycles = l.kernel.cycles; given = l.kernel.given; last = None };
      given : l.kernel.given ≡ length (lines_told l.kernel);
      within : l.kernel.dates ≤ l.fn.kernel.plan.until + 1;
      cycles : l.kernel.cycles ≤ l.kernel.dates * l.fn.kernel.plan.unit.quantum;
      over : l.kernel.dates ≡ l.fn.kernel.plan.until + 1 → l.kernel.cycles ≡ l.fn.kernel.plan.until * l.fn.kernel.plan.unit.quantum;
    }

-- The dates and cycles that are left
abbrev pub decreases-stages : goal.decreases-stages
decreases-stages l = (l.fn.kernel.plan.until + 1 - l.kernel.dates) + (l.fn.kernel.plan.until * l.fn.kernel.plan.unit.quantum - l.kernel.cycles)
