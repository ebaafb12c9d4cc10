-- What each loop of `run::write_summary` keeps.
use Rattle.std.proofs.Common.{◌≡◌, ◌≤◌, ◌-◌, length, take}
use Rattle.psy_door.specs.Growth.{Grew}
use Rattle.psy_kernel.specs.Progress.{summary_told}
use Rattle.psy_kernel.specs.Texts.{text_of}
use Rattle.psy_run.proofs.run.write_summary.Given as goal

abbrev pub invariant-lines : goal.invariant-lines
invariant-lines g l =
    record {
      within : l.place ≤ length (summary_told l.kernel);
      unfailed : g.S.Sink.faults l.out ≡ g.S.Sink.faults l.fn.out;
      grew : Grew (g.S.Sink.held l.fn.out) (g.S.Sink.held l.out) (text_of (take l.place (summary_told l.kernel)));
    }

-- The lines that are left
abbrev pub decreases-lines : goal.decreases-lines
decreases-lines g l = length (summary_told l.kernel) - l.place
