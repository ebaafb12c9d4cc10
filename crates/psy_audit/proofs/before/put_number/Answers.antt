-- What is left of the proof of `before::put_number`.
use Rattle.psy_audit.proofs.Places.{set_none}
use Rattle.psy_audit.proofs.before.put_number.Goals as goal

pub returns-in-None : goal.returns-in-None
returns-in-None c = set_none c.args.numbers.now c.args.place c.args.number c.in-None.ensures.value
