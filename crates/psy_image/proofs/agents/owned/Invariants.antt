-- What the loop of `agents::owned` keeps.
use Rattle.std.proofs.Common.{◌≡◌, ◌++◌, ◌≤◌, drop, length}
use Rattle.psy_image.specs.Images.{owned_from}
use Rattle.psy_image.proofs.agents.owned.Given as goal

abbrev pub invariant-loop-number : goal.invariant-loop-number
invariant-loop-number l = record {
  numbers : l.owned ++ owned_from l.agent l.number (drop l.number l.variables) ≡ owned_from l.agent 0 l.variables;
  few : length l.owned ≤ l.number;
}
