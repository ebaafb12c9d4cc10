-- What each loop of `frame::bottom_of` keeps.
use Rattle.std.proofs.Common.{◌≡◌, ◌+◌, ◌*◌, ◌≤◌, take}
use Rattle.psy_draw.specs.Drawing.{heights}
use Rattle.psy_draw.proofs.frame.bottom_of.Given as goal

-- The lanes so far
abbrev pub invariant-loop-lane : goal.invariant-loop-lane
invariant-loop-lane l = record {
  high : l.bottom ≡ 56 + heights (take l.lane-index l.lanes);
  low : l.bottom ≤ 56 + 64 * l.lane-index;
}
