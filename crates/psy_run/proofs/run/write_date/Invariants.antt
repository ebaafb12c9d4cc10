-- What each loop of `run::write_date` keeps.
use Rattle.std.proofs.Common.{◌≡◌, ◌≤◌, ◌-◌, length, take}
use Rattle.psy_door.specs.Growth.{Grew}
use Rattle.psy_kernel.specs.Progress.{lines_told}
use Rattle.psy_kernel.specs.Texts.{text_of}
use Rattle.psy_run.proofs.run.write_date.Given as goal

abbrev pub invariant-lines : goal.invariant-lines
invariant-lines g l =
    record {
      same : l.kernel ≡ record (l.fn.kernel) { given = l.kernel.given };
      within : l.kernel.given ≤ length (lines_told l.fn.kernel);
      unfailed : g.S.Sink.faults l.out ≡ g.S.Sink.faults l.fn.out;
      grew : Grew (g.S.Sink.held l.fn.out) (g.S.Sink.held l.out) (text_of (take l.kernel.given (lines_told l.fn.kernel)));
    }

-- The lines that are left
abbrev pub decreases-lines : goal.decreases-lines
decreases-lines g l = length (lines_told l.fn.kernel) - l.kernel.given
