-- What is left of the proof of `laws::rings`.
use Rattle.psy_history.proofs.ClockDates.{AreCounted}
use Rattle.psy_history.proofs.RingValues.{ring_look, ring_next}
use Rattle.psy_history.proofs.laws.rings.Goals as goal

counted : (c : goal.After-dates) → AreCounted
counted c = record { upto = c.dates.ensures.count; below = c.dates.ensures.below }

pub returns-clause-next : goal.returns-clause-next
returns-clause-next c s date variable size lawful is = ring_next s lawful (counted c) variable is date size

pub returns-clause-look : goal.returns-clause-look
returns-clause-look c s date agent variable back size decl r lawful is there at less inside = ring_look s lawful (counted c) variable is date agent back size decl r there at less inside
