-- What each loop of `picture::put_lanes` keeps.
use Rattle.std.proofs.Common.{◌≡◌, ◌+◌, ◌*◌, ◌≤◌, ◌++◌, drop}
use Rattle.psy_draw.specs.Drawing.{stacked}
use Rattle.psy_draw.specs.Scales.{place_by}
use Rattle.psy_draw.proofs.picture.put_lanes.Given as goal

-- The lanes so far go on to all of them.
abbrev pub invariant-loop-lane : goal.invariant-loop-lane
invariant-loop-lane l = record {
  low : l.top ≤ 56 + 64 * l.lane-index;
  drawn : l.page ++ stacked (place_by l.scale) l.tells l.left l.top (drop l.lane-index l.lanes) ≡ l.initial.page ++ stacked (place_by l.scale) l.tells l.left 56 l.lanes;
}
