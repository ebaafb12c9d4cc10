-- What each loop of `run::run_dates` keeps.
use Rattle.std.proofs.Common.{◌≡◌, ◌+◌, ◌-◌, ◌*◌, ◌≤◌, None, length}
use Rattle.psy_door.specs.Growth.{Grew}
use Rattle.psy_kernel.specs.Progress.{lines_told, system}
use Rattle.psy_kernel.specs.Texts.{log_of}
use Rattle.psy_run.proofs.run.run_dates.Given as goal

abbrev pub invariant-stages : goal.invariant-stages
invariant-stages g l =
    record {
      same : l.kernel ≡ record (l.fn.kernel) { dates = l.kernel.dates; cycles = l.kernel.cycles; given = l.kernel.given; last = None };
      given : l.kernel.given ≡ length (lines_told l.kernel);
      within : l.kernel.dates ≤ l.fn.kernel.plan.until + 1;
      behind : (system l.fn.kernel).opening.dates ≤ l.kernel.dates;
      cycles : l.kernel.cycles ≤ l.kernel.dates * l.fn.kernel.plan.unit.quantum;
      over : l.kernel.dates ≡ l.fn.kernel.plan.until + 1 → l.kernel.cycles ≡ l.fn.kernel.plan.until * l.fn.kernel.plan.unit.quantum;
      unfailed : g.S.Sink.faults l.out ≡ g.S.Sink.faults l.fn.out;
      grew : Grew (g.S.Sink.held l.fn.out) (g.S.Sink.held l.out) (log_of (system l.fn.kernel) l.kernel.dates);
    }

-- The dates and cycles that are left
abbrev pub decreases-stages : goal.decreases-stages
decreases-stages g l = (l.fn.kernel.plan.until + 1 - l.kernel.dates) + (l.fn.kernel.plan.until * l.fn.kernel.plan.unit.quantum - l.kernel.cycles)
