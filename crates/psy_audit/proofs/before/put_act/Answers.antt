-- What is left of the proof of `before::put_act`.
use Rattle.std.proofs.Common.{Some}
use Rattle.psy_audit.proofs.Places.{set_none}
use Rattle.psy_audit.proofs.before.put_act.Goals as goal

pub returns-in-None : goal.returns-in-None
returns-in-None c = set_none c.args.acts.now c.args.place (Some c.args.act) c.in-None.ensures.value
