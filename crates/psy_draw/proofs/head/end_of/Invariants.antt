-- What each loop of `head::end_of` keeps.
use Rattle.std.proofs.Common.{◌≡◌, length}
use Rattle.psy_draw.specs.Titles.{title_end}
use Rattle.psy_draw.proofs.head.end_of.Given as goal

-- No longer end may be a title.
abbrev pub invariant-ends : goal.invariant-ends
invariant-ends l = title_end l.rest ≡ title_end l.name

-- The bytes that are left
abbrev pub decreases-ends : goal.decreases-ends
decreases-ends l = length l.rest
