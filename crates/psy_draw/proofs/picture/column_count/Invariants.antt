-- What each loop of `picture::column_count` keeps.
use Rattle.std.proofs.Common.{◌≡◌, ◌-◌, ◌^◌, min, take}
use Rattle.psy_draw.specs.Drawing.{column_count}
use Rattle.psy_draw.proofs.picture.column_count.Given as goal

-- The columns so far
abbrev pub invariant-loop-lane : goal.invariant-loop-lane
invariant-loop-lane l = l.count ≡ min (column_count (take l.lane-index l.lanes)) (2 ^ 64 - 1)
