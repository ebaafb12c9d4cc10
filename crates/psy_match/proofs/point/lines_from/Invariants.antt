-- What each loop of `point::lines_from` keeps.
use Rattle.std.proofs.Common.{◌≡◌, ◌∷◌, ◌++◌, length, map}
use Rattle.psy_match.specs.Points.{advances, point_line}
use Rattle.psy_match.proofs.point.lines_from.Given as goal

-- The lines so far go on to all.
abbrev pub invariant-each : goal.invariant-each
invariant-each l = l.lines ++ map (point_line l.text) (advances l.rest) ≡ map (point_line l.text) (l.place ∷ advances l.behind)

abbrev pub decreases-each : goal.decreases-each
decreases-each l = length l.rest
