-- What each loop of `hover::tell` keeps.
use Rattle.std.proofs.Common.{◌≡◌, ◌++◌, length}
use Rattle.psy_draw.specs.Insides.{told_inside, told_parts}
use Rattle.psy_draw.proofs.hover.tell.Given as goal

-- The parts so far go on to all of them.
abbrev pub invariant-columns : goal.invariant-columns
invariant-columns l = l.page ++ told_parts l.lane.shape l.rest ≡ l.initial.page ++ told_inside l.lane.shape

-- The columns that are left
abbrev pub decreases-columns : goal.decreases-columns
decreases-columns l = length l.rest
