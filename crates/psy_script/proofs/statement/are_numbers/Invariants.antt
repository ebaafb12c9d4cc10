-- What each loop of `statement::are_numbers` keeps.
use Rattle.std.proofs.Common.{◌≡◌, length}
use Rattle.std.specs.List.{list_all}
use Rattle.psy_text.specs.Words.{is_number, words_of}
use Rattle.psy_script.proofs.statement.are_numbers.Given as goal

abbrev pub invariant-loop-cut : goal.invariant-loop-cut
invariant-loop-cut l = list_all is_number (words_of l.fn.line) ≡ list_all is_number (words_of l.rest)

abbrev pub decreases-loop-cut : goal.decreases-loop-cut
decreases-loop-cut l = length l.rest
