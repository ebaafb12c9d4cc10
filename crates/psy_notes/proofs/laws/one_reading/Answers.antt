-- What is left of the proof of `laws::one_reading`.
use Rattle.psy_notes.proofs.Total.{either}
use Rattle.psy_notes.proofs.Walks.{not_both, one_break}
use Rattle.psy_notes.proofs.laws.one_reading.Goals as goal

pub returns-clause-either : goal.returns-clause-either
returns-clause-either c = either

pub returns-clause-not_both : goal.returns-clause-not_both
returns-clause-not_both c = not_both

pub returns-clause-line : goal.returns-clause-line
returns-clause-line c = one_break
