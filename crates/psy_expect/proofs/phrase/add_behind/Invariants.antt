-- What each loop of `phrase::add_behind` keeps.
use Rattle.std.proofs.Common.{◌≡◌, ◌++◌, length, map}
use Rattle.psy_expect.specs.Phrases.{behind_first, phrase_words}
use Rattle.psy_expect.proofs.phrase.add_behind.Given as goal

abbrev pub invariant-each : goal.invariant-each
invariant-each l = l.out.items ++ behind_first (map phrase_words l.left) ≡ l.fn.out.items ++ behind_first (map phrase_words l.more)

abbrev pub decreases-each : goal.decreases-each
decreases-each l = length l.left
