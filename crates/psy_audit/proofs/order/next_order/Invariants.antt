-- What each loop of `order::next_order` keeps.
use Rattle.std.proofs.Common.{◌<◌, ◌≤◌, take}
use Rattle.std.specs.List.{All}
use Rattle.psy_audit.proofs.Edges.{ComesApart}
use Rattle.psy_audit.proofs.order.next_order.Given as goal

-- None of the orders so far comes into force before it.
abbrev pub invariant-orders : goal.invariant-orders
invariant-orders l = record {
  behind : l.cycle < l.next;
  within : l.next ≤ l.to;
  apart : All (ComesApart l.cycle l.next) (take l.told-index l.orders);
}
