-- What the loop of `encoding::put_copies` keeps.
use Rattle.std.proofs.Common.{◌≡◌, ◌++◌, length, take}
use Rattle.std.specs.List.{flat_map}
use Rattle.psy_image.specs.Bytes.{copy_bytes, number_bytes}
use Rattle.psy_image.proofs.encoding.put_copies.Given as goal

abbrev pub invariant-copies : goal.invariant-copies
invariant-copies l = l.out.items ≡ (l.fn.out.items ++ number_bytes (length l.copies)) ++ flat_map copy_bytes (take l.copy-index l.copies)
