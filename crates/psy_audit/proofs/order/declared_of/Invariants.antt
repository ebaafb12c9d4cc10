-- What each loop of `order::declared_of` keeps.
use Rattle.std.proofs.Common.{◌≡◌}
use Rattle.std.specs.List.{range_with_len}
use Rattle.psy_audit.proofs.order.declared_of.Given as goal

abbrev pub invariant-agents : goal.invariant-agents
invariant-agents l = l.declared ≡ range_with_len 0 l.agent
