-- What is left of the proof of `turns::past_on`.
use Rattle.psy_audit.proofs.Places.{get_or_none}
use Rattle.psy_audit.proofs.turns.past_on.Goals as goal

pub returns-in-None : goal.returns-in-None
returns-in-None c = get_or_none c.args.before.now.past c.args.processor 0 c.in-None.ensures.value
