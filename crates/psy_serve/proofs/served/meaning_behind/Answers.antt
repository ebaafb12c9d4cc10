-- What is left of the proof of `served::meaning_behind`.
use Rattle.psy_serve.specs.Behind.{untold}
use Rattle.psy_serve.proofs.served.meaning_behind.Goals as goal

pub returns-in_default : goal.returns-in_default
returns-in_default c line is = rw c.new.ensures.items untold

pub returns-in-None : goal.returns-in-None
returns-in-None c line is = rw c.new-in-None.ensures.items untold
