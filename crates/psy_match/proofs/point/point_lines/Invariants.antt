-- What each loop of `point::point_lines` keeps.
use Rattle.std.proofs.Common.{◌≡◌, ◌++◌, length}
use Rattle.psy_match.specs.Points.{point_lines}
use Rattle.psy_match.proofs.point.point_lines.Given as goal

-- The lines so far go on to all.
abbrev pub invariant-each : goal.invariant-each
invariant-each l = l.lines ++ point_lines l.text l.rest ≡ point_lines l.text l.tokens

abbrev pub decreases-each : goal.decreases-each
decreases-each l = length l.rest
