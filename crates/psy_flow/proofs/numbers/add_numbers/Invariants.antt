-- What each loop of `numbers::add_numbers` keeps.
use Rattle.std.proofs.Common.{◌+◌, ◌*◌}
use Rattle.psy_flow.specs.Bits.{HasNumber}
use Rattle.psy_flow.specs.Listed.{AreBelow}
use Rattle.psy_flow.proofs.numbers.add_numbers.Given as goal

abbrev pub invariant-bits : goal.invariant-bits
invariant-bits l = AreBelow (HasNumber l.rows l.place) (l.row * 64 + l.bit) l.numbers
