-- What each loop of `lines::has_many_lines` keeps.
use Rattle.std.proofs.Common.{◌≡◌, ◌+◌, ◌≤◌, length}
use Rattle.psy_base.specs.declared.limits.TheConstants.{LINES}
use Rattle.psy_text.specs.Lines.{lines_of}
use Rattle.psy_script.proofs.lines.has_many_lines.Given as goal

-- The lines that are read, and those that follow
abbrev pub invariant-loop-cut : goal.invariant-loop-cut
invariant-loop-cut l = record {
  few : l.lines ≤ LINES;
  all : l.lines + length (lines_of l.rest) ≡ length (lines_of l.text);
}

abbrev pub decreases-loop-cut : goal.decreases-loop-cut
decreases-loop-cut l = length l.rest
