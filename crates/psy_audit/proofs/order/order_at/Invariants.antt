-- What each loop of `order::order_at` keeps.
use Rattle.std.proofs.Common.{◌≡◌, drop}
use Rattle.psy_history.specs.Scripts.{in_force}
use Rattle.psy_audit.proofs.order.order_at.Given as goal

-- The orders so far have come, and this is the last of them.
abbrev pub invariant-orders : goal.invariant-orders
invariant-orders l = in_force l.order (drop l.told-index l.orders) l.cycle ≡ in_force l.declared l.orders l.cycle
