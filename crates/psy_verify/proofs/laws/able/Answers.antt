-- What is left of the proof of `laws::able`.
use Rattle.std.proofs.Common.{refl}
use Rattle.psy_base.specs.declared.limits.TheConstants.{OPEN_CALLS}
use Rattle.psy_verify.proofs.Levels.{room_there}
use Rattle.psy_verify.proofs.Runs.{never, on}
use Rattle.psy_verify.proofs.laws.able.Goals as goal

pub returns-clause-room : goal.returns-clause-room
returns-clause-room c unit code agent m v few safe = room_there unit code v agent m.place m m.calls OPEN_CALLS few refl safe.stands

pub returns-clause-on : goal.returns-clause-on
returns-clause-on c unit code agent view m n v few shows safe = on unit code v few agent view shows m safe n

pub returns-clause-never : goal.returns-clause-never
returns-clause-never c unit code agent view m v few shows safe = never unit code v few agent view shows m safe

pub returns-clause-seen : goal.returns-clause-seen
returns-clause-seen c unit agent view is = record { depths = is.depths; streams = is.streams }
