-- What each loop of `declared::inputs_of` keeps.
use Rattle.std.proofs.Common.{◌≡◌, ◌++◌, length, map}
use Rattle.psy_slip.specs.Declarations.{inputs_of}
use Rattle.psy_slip.proofs.declared.inputs_of.Given as goal

abbrev pub invariant-each : goal.invariant-each
invariant-each l = map (λ w. w.now) l.names.items ++ inputs_of l.rest ≡ inputs_of l.tokens

abbrev pub decreases-each : goal.decreases-each
decreases-each l = length l.rest
