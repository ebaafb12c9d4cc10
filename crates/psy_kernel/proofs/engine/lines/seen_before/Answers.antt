-- What is left of the proof of `engine::lines::seen_before`.
use Rattle.std.proofs.Common.{length, sym, ap}
use Rattle.psy_kernel.proofs.ShownMessages.{none_earlier}
use Rattle.psy_kernel.proofs.engine.lines.seen_before.Goals as goal

pub returns-then-date-eq0 : goal.returns-then-date-eq0
returns-then-date-eq0 c = sym (ap length (none_earlier c.args.date c.args.queue.now.messages c.if-date-eq0.true))
