-- What each loop of `word::words_of` keeps.
use Rattle.std.proofs.Common.{◌≡◌, ◌++◌, length, map}
use Rattle.psy_text.specs.Words.{words_of}
use Rattle.psy_text.proofs.word.words_of.Given as goal

abbrev pub invariant-each : goal.invariant-each
invariant-each l = map (λ w. w.now) l.words.items ++ words_of l.rest ≡ words_of l.line

abbrev pub decreases-each : goal.decreases-each
decreases-each l = length l.rest
