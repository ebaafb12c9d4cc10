-- What each loop of `run::pass_lines` keeps.
use Rattle.std.proofs.Common.{◌≡◌, ◌≤◌, ◌-◌, length}
use Rattle.psy_kernel.specs.Progress.{lines_told}
use Rattle.psy_collect.proofs.run.pass_lines.Given as goal

abbrev pub invariant-lines : goal.invariant-lines
invariant-lines l =
    record {
      same : l.kernel ≡ record (l.fn.kernel) { given = l.kernel.given };
      within : l.kernel.given ≤ length (lines_told l.fn.kernel);
    }

-- The lines that are left
abbrev pub decreases-lines : goal.decreases-lines
decreases-lines l = length (lines_told l.fn.kernel) - l.kernel.given
