-- What each loop of `numbers::numbers_at` keeps.
use Rattle.std.proofs.Common.{◌*◌}
use Rattle.psy_flow.specs.Bits.{HasNumber}
use Rattle.psy_flow.specs.Listed.{AreBelow}
use Rattle.psy_flow.proofs.numbers.numbers_at.Given as goal

abbrev pub invariant-rows : goal.invariant-rows
invariant-rows l = AreBelow (HasNumber l.rows l.place) (l.row * 64) l.numbers
