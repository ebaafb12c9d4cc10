-- What the loop of `encoding::put_instrs` keeps.
use Rattle.std.proofs.Common.{◌≡◌, ◌++◌, length, take}
use Rattle.std.specs.List.{flat_map}
use Rattle.psy_image.specs.Bytes.{instr_bytes, number_bytes}
use Rattle.psy_image.proofs.encoding.put_instrs.Given as goal

abbrev pub invariant-instrs : goal.invariant-instrs
invariant-instrs l = l.out.items ≡ (l.fn.out.items ++ number_bytes (length l.instrs)) ++ flat_map instr_bytes (take l.instr-index l.instrs)
