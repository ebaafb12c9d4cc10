-- What is left of the proof of `code_sends::mark_sent`.
use Rattle.std.proofs.Common.{sym}
use Rattle.psy_flow.specs.CodeLists.{sends_at}
use Rattle.psy_flow.proofs.CodeSendCounts.{no_send}
use Rattle.psy_flow.proofs.Marks.{marked_none}
use Rattle.psy_flow.proofs.code_sends.mark_sent.Goals as goal

pub returns-in_default : goal.returns-in_default
returns-in_default c = sym (marked_none c.args.sent.now (sends_at c.args.part) (no_send c.args.part c.in_default.not-Sent))
