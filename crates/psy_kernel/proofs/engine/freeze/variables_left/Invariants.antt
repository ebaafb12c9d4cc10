-- What each loop of `engine::freeze::variables_left` keeps.
use Rattle.std.proofs.Common.{◌≡◌, map}
use Rattle.std.specs.List.{range_with_len}
use Rattle.psy_kernel.specs.Freezing.{variable_left}
use Rattle.psy_kernel.proofs.engine.freeze.variables_left.Given as goal

abbrev pub invariant-variables : goal.invariant-variables
invariant-variables l = l.variables ≡ map (variable_left l.rings l.reaches) (range_with_len 0 l.variable)
