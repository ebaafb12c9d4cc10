-- What is left of the proof of `laws::dates`.
use Rattle.psy_clock.proofs.Counts.{date_counted, date_counted_below, after_is, from_is}
use Rattle.psy_clock.proofs.laws.dates.Goals as goal

pub returns-clause-count : goal.returns-clause-count
returns-clause-count c = date_counted

pub returns-clause-below : goal.returns-clause-below
returns-clause-below c = date_counted_below

pub returns-clause-after : goal.returns-clause-after
returns-clause-after c = after_is

pub returns-clause-from : goal.returns-clause-from
returns-clause-from c = from_is
