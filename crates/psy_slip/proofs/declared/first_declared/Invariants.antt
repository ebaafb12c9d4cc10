-- What each loop of `declared::first_declared` keeps.
use Rattle.std.proofs.Common.{◌≡◌, length}
use Rattle.psy_slip.specs.Declarations.{first_declared}
use Rattle.psy_slip.proofs.declared.first_declared.Given as goal

abbrev pub invariant-each : goal.invariant-each
invariant-each l = first_declared l.how l.word l.name l.rest ≡ first_declared l.how l.word l.name l.tokens

abbrev pub decreases-each : goal.decreases-each
decreases-each l = length l.rest
