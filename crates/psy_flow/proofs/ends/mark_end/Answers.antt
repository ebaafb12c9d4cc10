-- What is left of the proof of `ends::mark_end`.
use Rattle.std.proofs.Common.{sym}
use Rattle.psy_flow.specs.Walks.{ends_at}
use Rattle.psy_flow.proofs.CodeEnds.{no_end}
use Rattle.psy_flow.proofs.Marks.{marked_none}
use Rattle.psy_flow.proofs.ends.mark_end.Goals as goal

pub returns-in_default : goal.returns-in_default
returns-in_default c = sym (marked_none c.args.reached.now (ends_at c.args.instr.now) (no_end c.args.instr.now c.in_default.not-Advance))
