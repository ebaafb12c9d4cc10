-- What each loop of `boxes::put_values` keeps.
use Rattle.std.proofs.Common.{◌≡◌, ◌++◌, length}
use Rattle.psy_draw.specs.Insides.{box_labels}
use Rattle.psy_draw.proofs.boxes.put_values.Given as goal

-- The values so far go on to all of them.
abbrev pub invariant-loop-column : goal.invariant-loop-column
invariant-loop-column l = l.page ++ box_labels l.rest ≡ l.initial.page ++ box_labels l.columns

-- The columns that are left
abbrev pub decreases-loop-column : goal.decreases-loop-column
decreases-loop-column l = length l.rest
