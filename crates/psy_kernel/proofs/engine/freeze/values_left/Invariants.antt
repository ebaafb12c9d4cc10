-- What each loop of `engine::freeze::values_left` keeps.
use Rattle.std.proofs.Common.{◌≡◌, take}
use Rattle.psy_kernel.proofs.engine.freeze.values_left.Given as goal

abbrev pub invariant-values : goal.invariant-values
invariant-values l = l.values ≡ take l.age l.ring
