-- What the loop of `encoding::put_clocks` keeps.
use Rattle.std.proofs.Common.{◌≡◌, ◌++◌, drop, length}
use Rattle.psy_image.specs.Bytes.{clock_bytes, number_bytes, paired_bytes}
use Rattle.psy_image.proofs.encoding.put_clocks.Given as goal

abbrev pub invariant-clocks : goal.invariant-clocks
invariant-clocks l = l.out.items ++ paired_bytes clock_bytes (drop l.at l.names) (drop l.at l.clocks) ≡ l.fn.out.items ++ (number_bytes (length l.clocks) ++ paired_bytes clock_bytes l.names l.clocks)
