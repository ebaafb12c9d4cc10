-- What is left of the proof of `before::number_at`.
use Rattle.psy_audit.proofs.Places.{get_or_none}
use Rattle.psy_audit.proofs.before.number_at.Goals as goal

pub returns-in-None : goal.returns-in-None
returns-in-None c = get_or_none c.args.numbers.now c.args.place 0 c.in-None.ensures.value
