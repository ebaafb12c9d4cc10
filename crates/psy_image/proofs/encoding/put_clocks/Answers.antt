-- What is left of the proof of `encoding::put_clocks`.
use Rattle.std.proofs.Common.{◌++◌, length, arith}
use Rattle.psy_image.specs.Bytes.{clock_bytes, clocks_bytes, number_bytes, paired_bytes}
use Rattle.psy_image.proofs.Written.{paired_done}
use Rattle.psy_image.proofs.encoding.put_clocks.Goals as goal

pub returns : goal.returns
unfolding clocks_bytes
returns c = paired_done clock_bytes c.args.names.now c.args.clocks.now c.clocks.at c.clocks.out.items (c.args.out.now.items ++ (number_bytes (length c.args.clocks.now) ++ paired_bytes clock_bytes c.args.names.now c.args.clocks.now)) (omega (arith, c.clocks-test.false, c.min-len.ensures)) c.clocks.invariant
