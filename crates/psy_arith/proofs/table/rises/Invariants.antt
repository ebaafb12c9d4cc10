-- What each loop of `table::rises` keeps.
use Rattle.std.proofs.Common.{◌≡◌, length}
use Rattle.psy_arith.specs.Tables.{bytes_rise}
use Rattle.psy_arith.proofs.table.rises.Given as goal

abbrev pub invariant-loop-rest : goal.invariant-loop-rest
invariant-loop-rest l = bytes_rise l.rows ≡ bytes_rise l.rest

abbrev pub decreases-loop-rest : goal.decreases-loop-rest
decreases-loop-rest l = length l.rest
