-- What each loop of `script::stated_script` keeps.
use Rattle.std.proofs.Common.{◌≡◌, List, ℕ, length}
use Rattle.psy_text.specs.Lines.{lines_of}
use Rattle.psy_script.specs.Script.{script_judge, script_in}
use Rattle.psy_script.proofs.FirstFaults.{AreRead}
use Rattle.psy_script.proofs.script.stated_script.Given as goal

abbrev pub invariant-loop-cut : goal.invariant-loop-cut
invariant-loop-cut l = (before : List (List ℕ)) × (length before ≡ l.line) × AreRead (script_judge l.unit) l.text before (lines_of l.rest) × (l.placed ≡ script_in l.unit before)

abbrev pub decreases-loop-cut : goal.decreases-loop-cut
decreases-loop-cut l = length l.rest
