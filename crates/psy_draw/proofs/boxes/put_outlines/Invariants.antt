-- What each loop of `boxes::put_outlines` keeps.
use Rattle.std.proofs.Common.{◌≡◌, ◌++◌, length}
use Rattle.psy_draw.specs.Insides.{boxes_text}
use Rattle.psy_draw.proofs.boxes.put_outlines.Given as goal

-- The boxes so far go on to all of them.
abbrev pub invariant-loop-column : goal.invariant-loop-column
invariant-loop-column l = l.page ++ boxes_text l.even l.rest l.end ≡ l.initial.page ++ boxes_text l.even l.columns l.end

-- The columns that are left
abbrev pub decreases-loop-column : goal.decreases-loop-column
decreases-loop-column l = length l.rest
