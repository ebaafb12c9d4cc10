-- What each loop of `cycles::next_edge` keeps.
use Rattle.std.proofs.Common.{◌<◌, ◌≤◌, take}
use Rattle.std.specs.List.{All}
use Rattle.psy_audit.proofs.Edges.{IsApart}
use Rattle.psy_audit.proofs.cycles.next_edge.Given as goal

-- None of the stretches so far begins or is over before it.
abbrev pub invariant-its : goal.invariant-its
invariant-its l = record {
  behind : l.cycle < l.next;
  within : l.next ≤ l.to;
  apart : All (IsApart l.cycle l.next) (take l.segment-index l.its);
}
