-- What each loop of `frame::bounds_width` keeps.
use Rattle.std.proofs.Common.{◌≡◌, take}
use Rattle.psy_draw.specs.Frames.{longest_bound}
use Rattle.psy_draw.proofs.frame.bounds_width.Given as goal

-- The longest bound so far
abbrev pub invariant-loop-lane : goal.invariant-loop-lane
invariant-loop-lane l = l.longest ≡ longest_bound (take l.lane-index l.lanes)
