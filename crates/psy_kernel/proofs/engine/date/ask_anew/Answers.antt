-- What is left of the proof of `engine::date::ask_anew`.
use Rattle.std.proofs.Common.{arith}
use Rattle.psy_kernel.proofs.Asked.{all_asked}
use Rattle.psy_kernel.proofs.engine.date.ask_anew.Goals as goal

pub returns : goal.returns
returns c = all_asked c.args.servers.now.items c.each.servers.items c.each.processor (omega (arith, c.each-test.false, c.len-processor-end.ensures)) c.each.invariant
