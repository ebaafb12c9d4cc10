-- What each loop of `wrong::words_of_type` keeps.
use Rattle.std.proofs.Common.{◌≡◌, ◌+◌, ◌≤◌, length}
use Rattle.psy_breach.specs.Wrong.{words_of_type}
use Rattle.psy_breach.proofs.wrong.words_of_type.Given as goal

abbrev pub invariant-each : goal.invariant-each
invariant-each l = record {
  within : l.many + length l.rest ≤ length l.declaration;
  counted : l.many + words_of_type l.rest ≡ words_of_type l.declaration;
}

abbrev pub decreases-each : goal.decreases-each
decreases-each l = length l.rest
