-- What each loop of `acting::next_act` keeps.
use Rattle.std.proofs.Common.{◌≡◌, ◌≤◌, length}
use Rattle.psy_machine.specs.Stepping.{IsOf}
use Rattle.psy_trials.specs.Actions.{IsUnderWay}
use Rattle.psy_trials.proofs.acting.next_act.Given as goal

abbrev pub invariant-loop-executed : goal.invariant-loop-executed
invariant-loop-executed l = record {
  within : l.executed ≤ 200;
  of : IsOf l.code l.machine;
  agent : l.machine.agent ≡ l.fn.machine.agent;
  way : IsUnderWay l.unit l.code l.machine.agent l.machine.machine (record { pasts = l.look.pasts; messages = l.look.messages.items });
  streams : l.look.streams ≡ length l.unit.streams;
  clocks : l.look.clocks ≡ length l.unit.clocks;
}
