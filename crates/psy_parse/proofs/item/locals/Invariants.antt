-- What each loop of `item::locals` keeps.
use Rattle.std.proofs.Common.{◌≡◌, []}
use Rattle.psy_parse.specs.Reading.{left, locals_at}
use Rattle.psy_parse.proofs.item.locals.Given as goal

-- What is left to read gives what there was to read in the beginning
abbrev pub invariant-loop-depth : goal.invariant-loop-depth
invariant-loop-depth l = locals_at l.arrays l.depth l.locals (left l.rest) ≡ locals_at l.arrays l.fn.depth [] (left l.fn.cursor)

abbrev pub decreases-loop-depth : goal.decreases-loop-depth
decreases-loop-depth l = l.depth
