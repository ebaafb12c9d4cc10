-- What is left of the proof of `laws::given`.
use Rattle.psy_history.specs.Processors.{processor_at}
use Rattle.psy_history.proofs.Given.{given_within, given_unstarted}
use Rattle.psy_history.proofs.Turns.{serving}
use Rattle.psy_history.proofs.laws.given.Goals as goal

pub returns-clause-within : goal.returns-clause-within
returns-clause-within c s order dates cycles agent r lawful some there = given_within s (serving s order (processor_at s.unit r.agent)) dates cycles agent r there

pub returns-clause-unstarted : goal.returns-clause-unstarted
returns-clause-unstarted c s order date cycles agent number lawful some within high = given_unstarted s (serving s order (processor_at s.unit agent)) date cycles agent number some within high
