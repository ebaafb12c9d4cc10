-- An engine's processors can supply the demand of its plan.
use Rattle.std.proofs.Common.{length}
use Rattle.std.specs.List.{range_with_len}
use Rattle.psy_kernel.proofs.lemmas.OrdersInForce.{declared_each, in_force_each}
use Rattle.psy_history.specs.Regular.{IsLawful}
use Rattle.psy_history.specs.Scheduled.{HaveAll, IsSupplied}
use Rattle.psy_dates.specs.Plans.{IsPlan}
use Rattle.psy_kernel.specs.Engines.{EngineState, history_of, ties}
use Rattle.psy_history.specs.Scripts.{IsScript}

-- At each cycle the order in force has all agents.
pub have_all : (e : EngineState) → IsScript e.plan.unit e.script → HaveAll (history_of e) (ties e)
have_all e script cycle = in_force_each e.plan.unit (range_with_len 0 (length e.plan.unit.agents)) e.script.orders cycle (declared_each (length e.plan.unit.agents)) script.orders

pub supplied : (e : EngineState) → IsPlan e.plan → IsScript e.plan.unit e.script → IsLawful (history_of e) → IsSupplied (history_of e) (ties e) e.plan.until
supplied e plan script lawful = record {
  lawful = lawful;
  quantum = plan.fits.bare.quantum.0;
  orders = have_all e script;
  graphs = plan.supplied.graphs;
  drawn = record { count = plan.supplied.drawn.count; each = plan.supplied.drawn.each };
  feasible = plan.supplied.feasible;
}
