-- What each loop of `next::marked_numbers` keeps.
use Rattle.std.proofs.Common.{◌≡◌, ◌++◌, drop}
use Rattle.psy_flow.specs.Reach.{numbers_of, numbers_from}
use Rattle.psy_flow.proofs.next.marked_numbers.Given as goal

abbrev pub invariant-loop-number : goal.invariant-loop-number
invariant-loop-number l = l.numbers ++ numbers_from l.number (drop l.number l.marks) ≡ numbers_of l.marks
