-- What each loop of `frame::names_width` keeps.
use Rattle.std.proofs.Common.{◌≡◌, take}
use Rattle.psy_draw.specs.Heads.{longest_name}
use Rattle.psy_draw.proofs.frame.names_width.Given as goal

-- The longest name so far
abbrev pub invariant-loop-lane : goal.invariant-loop-lane
invariant-loop-lane l = l.longest ≡ longest_name (take l.lane-index l.lanes)
