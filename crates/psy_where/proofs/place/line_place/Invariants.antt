-- What each loop of `place::line_place` keeps.
use Rattle.std.proofs.Common.{◌-◌, length}
use Rattle.psy_where.proofs.LinesWalked.{Walks}
use Rattle.psy_where.proofs.place.line_place.Given as goal

abbrev pub invariant-loop-place : goal.invariant-loop-place
invariant-loop-place l = Walks l.text l.number l.line l.place

abbrev pub decreases-loop-place : goal.decreases-loop-place
decreases-loop-place l = length l.text - l.place
