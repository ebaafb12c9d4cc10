-- What is left of the proof of `laws::nexts`.
use Rattle.psy_flow.proofs.AllNexts.{all_nexts, are_nexts}
use Rattle.psy_flow.proofs.laws.nexts.Goals as goal

pub returns-clause-some : goal.returns-clause-some
returns-clause-some c unit number agent its = (all_nexts agent, are_nexts unit number agent its (c.known.ensures unit number agent its))

pub returns-clause-within : goal.returns-clause-within
returns-clause-within c unit number agent its = (c.known.ensures unit number agent its).inner
