-- The orders of ties of a script list all agents, at each cycle.
use Rattle.std.proofs.Common.{ℕ, ◌<◌, length}
use Rattle.std.specs.List.{Contains, range_with_len}
use Rattle.psy_kernel.proofs.lemmas.OrdersInForce.{declared_each, in_force_each}
use Rattle.psy_tree.specs.declared.unit.Unit.{Unit as Whole}
use Rattle.psy_history.specs.declared.told.Script.{Script}
use Rattle.psy_history.specs.Scripts.{IsScript, order_of}

-- And so the order of a script, at each cycle
pub order_each : (unit : Whole) (script : Script) → IsScript unit script → (cycle agent : ℕ) → agent < length unit.agents → Contains (order_of unit script cycle) agent
order_each unit script is cycle = in_force_each unit (range_with_len 0 (length unit.agents)) script.orders cycle (declared_each (length unit.agents)) is.orders
