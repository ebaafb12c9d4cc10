-- What is left of the proof of `faults::last_act`.
use Rattle.std.proofs.Common.{None}
use Rattle.psy_audit.proofs.Places.{get_or_none}
use Rattle.psy_audit.proofs.faults.last_act.Goals as goal

pub returns-in-None : goal.returns-in-None
returns-in-None c = get_or_none c.args.before.now.acts c.args.agent None c.in-None.ensures.value
