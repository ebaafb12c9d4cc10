-- A plan up to an earlier date is a plan; and a run of its code may be saved at that date, where the buffers have the sizes that the program's statements
-- ask for.
use Rattle.std.proofs.Common.{ℕ, ◌*◌, ◌^◌, ◌<◌, ◌≤◌, List, length, get_or, refl, arith}
use Rattle.std.specs.Prelude.{ℤ}
use Rattle.std.proofs.lemmas.Option.{slice_get-get_or}
use Rattle.psy_base.specs.declared.limits.TheConstants.{UNTIL}
use Rattle.psy_dates.specs.declared.plan.Plan.{Plan}
use Rattle.psy_dates.specs.Plans.{IsPlan, system_of}
use Rattle.psy_history.specs.declared.told.Script.{Script}
use Rattle.psy_history.specs.Actions.{System}
use Rattle.psy_history.specs.Regular.{IsLawful}
use Rattle.psy_history.specs.Resuming.{MaySave}
use Rattle.psy_history.specs.Runs.{IsRun}
use Rattle.psy_history.specs.Scheduled.{IsSupplied}
use Rattle.psy_history.specs.Scripts.{IsScript, order_of, stalls_of}
use Rattle.psy_kernel.specs.Freezing.{BeginWithFirst}
use Rattle.psy_kernel.proofs.lemmas.OrdersInForce.{declared_each, in_force_each}
use Rattle.psy_meaning.specs.BufferSizes.{AreSizes}
use Rattle.psy_meaning.specs.KnownWays.{OfText}

module _ (plan : Plan) (its : IsPlan plan) (date : ℕ) (within : date ≤ plan.until) where
  -- The same plan up to the date
  abbrev pub up_to : Plan
  up_to = record plan { until = date }

  pub earlier : IsPlan up_to
  earlier = record {
    ways = its.ways;
    fits = its.fits;
    nexts = its.nexts;
    buffers = its.buffers;
    supplied = record {
      graphs = its.supplied.graphs;
      drawn = its.supplied.drawn;
      feasible = λ processor known span some few. its.supplied.feasible processor known span some (omega (arith, few, within));
    };
  }

  module _ (inputs : List (List ℤ)) (script : Script) (of : IsScript plan.unit script) where
    abbrev s : System
    s = system_of plan inputs (stalls_of script)

    module _ (run : IsRun s (OfText plan.unit) plan.code) (lawful : IsLawful s) where
      supplied : IsSupplied s (order_of plan.unit script) date
      supplied = record {
        lawful = lawful;
        quantum = run.bare.quantum.0;
        orders = λ cycle. in_force_each plan.unit _ script.orders cycle (declared_each (length plan.unit.agents)) of.orders;
        graphs = earlier.supplied.graphs;
        drawn = record { count = earlier.supplied.drawn.count; each = earlier.supplied.drawn.each };
        feasible = earlier.supplied.feasible;
      }

      pub may_save : AreSizes plan.unit (OfText plan.unit) plan.nexts plan.sizes → BeginWithFirst plan → date ≤ UNTIL → date * plan.unit.quantum < 2 ^ 50
          → MaySave s (OfText plan.unit) plan.code plan.sizes.rings (order_of plan.unit script) date
      may_save sizes first near cycles = record {
        run = run;
        whole = refl;
        supplied = supplied;
        rings = sizes.rings;
        queues = λ stream less.
            let there : stream < length plan.sizes.queues = omega (arith, less, sizes.queues.count) in
            let size : ℕ = get_or plan.sizes.queues stream 0 in
            (size, sizes.queues.each stream size (slice_get-get_or plan.sizes.queues stream 0 there), sizes.small_queues stream 0 there);
        copies = first;
        near = near;
        cycles = cycles;
      }
