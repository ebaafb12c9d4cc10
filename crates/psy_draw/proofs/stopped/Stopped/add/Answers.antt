-- What is left of the proof of `stopped::Stopped::add`.
use Rattle.psy_draw.proofs.stopped.Stopped.add.Goals as goal

pub returns-in-StopOverrun : goal.returns-in-StopOverrun
returns-in-StopOverrun c = rw c.in-StopOverrun.is c.add_stop.ensures

pub returns-in-StopTrap : goal.returns-in-StopTrap
returns-in-StopTrap c = rw c.in-StopTrap.is c.add_stop-in-StopTrap.ensures
