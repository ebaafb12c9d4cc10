-- What each loop of `declared::last_head` keeps.
use Rattle.std.proofs.Common.{◌≡◌, [], length}
use Rattle.psy_breach.specs.Declarations.{last_head_or}
use Rattle.psy_breach.proofs.declared.last_head.Given as goal

abbrev pub invariant-each : goal.invariant-each
invariant-each l = last_head_or l.found l.rest ≡ last_head_or [] l.tokens

abbrev pub decreases-each : goal.decreases-each
decreases-each l = length l.rest
