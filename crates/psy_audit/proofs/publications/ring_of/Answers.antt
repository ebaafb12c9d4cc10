-- What is left of the proof of `publications::ring_of`.
use Rattle.psy_audit.proofs.Places.{get_or_none}
use Rattle.psy_audit.proofs.publications.ring_of.Goals as goal

pub returns-in-None : goal.returns-in-None
returns-in-None c = get_or_none c.args.plan.now.sizes.rings c.args.variable 0 c.in-None.ensures.value
