-- What is left of the proof of `checking::since`.
use Rattle.psy_film.proofs.Faults.{broke, grown, still_run}
use Rattle.psy_film.proofs.checking.since.Goals as goal

pub returns-in-Line : goal.returns-in-Line
returns-in-Line c = λ files name before after notes run why.
    broke c.one_reading.ensures.not_both files name before after notes c.args.fault c.in-Line.line c.in-Line.is run why

pub returns-in-Many : goal.returns-in-Many
returns-in-Many c = λ files name before after notes run why. grown c.one_front.ensures files name before after notes c.args.fault c.in-Many.is run why

pub returns-in_default : goal.returns-in_default
returns-in_default c = λ files name before after notes run why. still_run files name before after c.args.fault c.in_default.not-Line c.in_default.not-Many why
