-- What each loop of `functions::first_values` keeps.
use Rattle.std.proofs.Common.{◌≡◌, map, take}
use Rattle.psy_gen.proofs.functions.first_values.Given as goal

abbrev pub invariant-loop-local : goal.invariant-loop-local
invariant-loop-local l = l.values ≡ map (λ x. x.init) (take l.local-index l.locals)
