-- What each loop of `placed::sorted_orders` keeps.
use Rattle.std.proofs.Common.{◌≡◌, ◌++◌, map}
use Rattle.psy_script.specs.Entries.{order_from}
use Rattle.psy_script.proofs.placed.sorted_orders.Given as goal

abbrev pub invariant-loop-cycle : goal.invariant-loop-cycle
invariant-loop-cycle l = map order_from l.fn.orders.entries ≡ l.sorted ++ map order_from l.cycle-iterator
