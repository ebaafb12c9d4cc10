-- What is left of the proof of `laws::distances`.
use Rattle.psy_clock.proofs.Distances.{after-late, after-near, from-late, from-near, after-again}
use Rattle.psy_clock.proofs.laws.distances.Goals as goal

pub returns-clause-late : goal.returns-clause-late
returns-clause-late c = after-late

pub returns-clause-near : goal.returns-clause-near
returns-clause-near c = after-near

pub returns-clause-from_late : goal.returns-clause-from_late
returns-clause-from_late c = from-late

pub returns-clause-from_near : goal.returns-clause-from_near
returns-clause-from_near c = from-near

pub returns-clause-again : goal.returns-clause-again
returns-clause-again c = after-again
