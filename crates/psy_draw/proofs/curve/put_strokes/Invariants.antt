-- What each loop of `curve::put_strokes` keeps.
use Rattle.std.proofs.Common.{◌≡◌, ◌++◌, length}
use Rattle.psy_draw.specs.Curves.{steps_end, steps_text}
use Rattle.psy_draw.proofs.curve.put_strokes.Given as goal

-- The line so far goes on over all of the columns.
abbrev pub invariant-loop-column : goal.invariant-loop-column
invariant-loop-column l = record {
  drawn : l.page ++ steps_text l.span l.rest l.y ≡ l.initial.page ++ steps_text l.span l.columns l.initial.y;
  end : steps_end l.span l.rest l.y ≡ steps_end l.span l.columns l.initial.y;
}

-- The columns that are left
abbrev pub decreases-loop-column : goal.decreases-loop-column
decreases-loop-column l = length l.rest
