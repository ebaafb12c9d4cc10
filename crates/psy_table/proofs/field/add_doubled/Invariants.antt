-- What each loop of `field::add_doubled` keeps.
use Rattle.std.proofs.Common.{◌≡◌, ◌++◌, take}
use Rattle.std.specs.List.{flat_map}
use Rattle.psy_table.specs.Fields.{doubled}
use Rattle.psy_table.proofs.field.add_doubled.Given as goal

-- The bytes so far
abbrev pub invariant-loop-byte : goal.invariant-loop-byte
invariant-loop-byte l = l.out.items ≡ l.initial.out.items ++ flat_map doubled (take l.byte-index l.text)
