-- What each loop of `code_delays::raise_among` keeps.
use Rattle.std.proofs.Common.{take}
use Rattle.psy_flow.specs.CodeLists.{HasDelayAmong, IsRaisedTo}
use Rattle.psy_flow.proofs.code_delays.raise_among.Given as goal

abbrev pub invariant-places : goal.invariant-places
invariant-places l = IsRaisedTo (HasDelayAmong l.unit l.instrs l.endings (take l.place-index l.places)) l.fn.delays l.delays
