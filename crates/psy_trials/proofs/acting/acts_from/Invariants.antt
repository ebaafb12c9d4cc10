-- What each loop of `acting::acts_from` keeps.
use Rattle.std.proofs.Common.{◌≡◌}
use Rattle.psy_machine.specs.Stepping.{IsOf}
use Rattle.psy_trials.specs.Actions.{Rests}
use Rattle.psy_trials.proofs.acting.acts_from.Given as goal

abbrev pub invariant-loop : goal.invariant-loop
invariant-loop l = record {
  of : IsOf l.code l.machine;
  agent : l.machine.agent ≡ l.scene.agent;
  rests : Rests l.unit l.code l.machine.agent l.machine.machine;
}
