-- What each loop of `first::next_wait` keeps.
use Rattle.std.proofs.Common.{◌<◌, ◌≤◌, take}
use Rattle.std.specs.List.{All}
use Rattle.psy_audit.specs.Apart.{IsSteady}
use Rattle.psy_audit.proofs.first.next_wait.Given as goal

-- None of the actions so far begins to wait or ends before it.
abbrev pub invariant-waits : goal.invariant-waits
invariant-waits l = record {
  behind : l.cycle < l.next;
  within : l.next ≤ l.to;
  apart : All (IsSteady l.cycle l.next) (take l.wait-index l.waits);
}
