-- What each loop of `before::zeros` keeps.
use Rattle.std.proofs.Common.{◌≡◌, map}
use Rattle.std.specs.List.{range_with_len}
use Rattle.psy_audit.proofs.before.zeros.Given as goal

abbrev pub invariant-places : goal.invariant-places
invariant-places l = l.numbers ≡ map (λ n. 0) (range_with_len 0 l.place)
