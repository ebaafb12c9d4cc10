-- What is left of the proof of `served::explanation_behind`.
use Rattle.psy_serve.specs.Behind.{nothing}
use Rattle.psy_serve.proofs.served.explanation_behind.Goals as goal

pub returns-in_default-clause-explained : goal.returns-in_default-clause-explained
returns-in_default-clause-explained g c line is = rw c.new.ensures.items nothing

pub returns-in-None-clause-explained : goal.returns-in-None-clause-explained
returns-in-None-clause-explained g c line is = rw c.new-in-None.ensures.items nothing
