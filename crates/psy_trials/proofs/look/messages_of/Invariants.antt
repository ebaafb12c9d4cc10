-- What each loop of `look::messages_of` keeps.
use Rattle.std.proofs.Common.{◌≡◌, take, map}
use Rattle.std.specs.Prelude.{◌==◌}
use Rattle.std.specs.List.{All}
use Rattle.psy_meaning.specs.Alike.{MessagesFit, is_there}
use Rattle.psy_trials.specs.Looks.{IsFew}
use Rattle.psy_trials.proofs.look.messages_of.Given as goal

abbrev pub invariant-loop-stream : goal.invariant-loop-stream
invariant-loop-stream l = record {
  there : map is_there l.messages.items ≡ map (λ s. s.receiver == l.agent) (take l.stream-index l.streams);
  fit : All MessagesFit l.messages.items;
  few : All IsFew l.messages.items;
}
