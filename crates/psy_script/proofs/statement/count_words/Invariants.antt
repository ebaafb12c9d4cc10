-- What each loop of `statement::count_words` keeps.
use Rattle.std.proofs.Common.{◌≡◌, ◌+◌, ◌≤◌, length}
use Rattle.psy_text.specs.Words.{words_of}
use Rattle.psy_script.proofs.statement.count_words.Given as goal

abbrev pub invariant-loop-cut : goal.invariant-loop-cut
invariant-loop-cut l = record {
  counted : length (words_of l.fn.line) ≡ l.words + length (words_of l.rest);
  few : l.words + length l.rest ≤ length l.fn.line;
}

abbrev pub decreases-loop-cut : goal.decreases-loop-cut
decreases-loop-cut l = length l.rest
