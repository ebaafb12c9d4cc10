-- What each loop of `curve::put_labels` keeps.
use Rattle.std.proofs.Common.{◌≡◌, ◌++◌, None, length}
use Rattle.psy_draw.specs.Curves.{curve_labels}
use Rattle.psy_draw.proofs.curve.put_labels.Given as goal

-- The labels so far go on to all of them.
abbrev pub invariant-loop-column : goal.invariant-loop-column
invariant-loop-column l = l.page ++ curve_labels l.span l.before l.rest l.free ≡ l.initial.page ++ curve_labels l.span None l.columns 0

-- The columns that are left
abbrev pub decreases-loop-column : goal.decreases-loop-column
decreases-loop-column l = length l.rest
