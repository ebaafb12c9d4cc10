-- What each loop of `item::declarations` keeps.
use Rattle.std.proofs.Common.{◌≡◌, []}
use Rattle.psy_parse.specs.Reading.{left, program_at}
use Rattle.psy_parse.proofs.item.declarations.Given as goal

-- What is left to read gives what there was to read in the beginning
abbrev pub invariant-loop-depth : goal.invariant-loop-depth
invariant-loop-depth l = program_at l.depth l.items (left l.rest) ≡ program_at l.fn.depth [] (left l.fn.cursor)

abbrev pub decreases-loop-depth : goal.decreases-loop-depth
decreases-loop-depth l = l.depth
