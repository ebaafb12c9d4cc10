-- What each loop of `compare::first_difference` keeps.
use Rattle.std.proofs.Common.{◌≡◌, map, take}
use Rattle.psy_log.specs.Forms.{line_of}
use Rattle.psy_differ.proofs.compare.first_difference.Given as goal

-- The lines so far are the same
abbrev pub invariant-loop-place : goal.invariant-loop-place
invariant-loop-place l = take l.place (map line_of l.first) ≡ take l.place (map line_of l.second)
