-- What each loop of `item::further_params` keeps.
use Rattle.std.proofs.Common.{◌≡◌}
use Rattle.psy_parse.specs.Reading.{left, further_at}
use Rattle.psy_parse.proofs.item.further_params.Given as goal

-- What is left to read gives what there was to read in the beginning
abbrev pub invariant-loop-depth : goal.invariant-loop-depth
invariant-loop-depth l = further_at l.depth l.params (left l.rest) ≡ further_at l.fn.depth l.fn.first (left l.fn.cursor)

abbrev pub decreases-loop-depth : goal.decreases-loop-depth
decreases-loop-depth l = l.depth
