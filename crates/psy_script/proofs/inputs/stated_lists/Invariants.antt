-- What each loop of `inputs::stated_lists` keeps.
use Rattle.std.proofs.Common.{◌≡◌, ℕ, List, length}
use Rattle.psy_script.specs.Inputs.{inputs_judge, lists_in}
use Rattle.psy_text.specs.Lines.{lines_of}
use Rattle.psy_script.proofs.FirstFaults.{AreRead}
use Rattle.psy_script.proofs.inputs.stated_lists.Given as goal

-- The lists are those of the lines that were read, and none of these is at fault.
abbrev pub invariant-loop-cut : goal.invariant-loop-cut
invariant-loop-cut l = record {
  before : List (List ℕ);
  read : AreRead (inputs_judge l.unit) l.text before (lines_of l.rest);
  count : l.line ≡ length before;
  lists : l.lists ≡ lists_in l.unit before;
}

abbrev pub decreases-loop-cut : goal.decreases-loop-cut
decreases-loop-cut l = length l.rest
