-- What is left of the proof of `faults::number_of`.
use Rattle.psy_audit.proofs.Places.{get_or_none}
use Rattle.psy_audit.proofs.faults.number_of.Goals as goal

pub returns-in-None : goal.returns-in-None
returns-in-None c = get_or_none c.args.before.now.published c.args.variable 0 c.in-None.ensures.value
