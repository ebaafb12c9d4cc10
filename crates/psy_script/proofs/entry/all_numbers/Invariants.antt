-- What each loop of `entry::all_numbers` keeps.
use Rattle.std.proofs.Common.{◌≡◌, ◌++◌, length}
use Rattle.psy_script.specs.Entries.{numbers_in}
use Rattle.psy_script.proofs.entry.all_numbers.Given as goal

abbrev pub invariant-loop-cut : goal.invariant-loop-cut
invariant-loop-cut l = numbers_in l.fn.words ≡ l.numbers ++ numbers_in l.rest

abbrev pub decreases-loop-cut : goal.decreases-loop-cut
decreases-loop-cut l = length l.rest
