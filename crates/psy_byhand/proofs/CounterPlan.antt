-- The counter's plan is one: its code fits, its buffers are as large as they have to be, and its demand is supplied.
use Rattle.std.proofs.Common.{◌≡◌, ℕ, zero, suc, ◌*◌, ◌≤◌, List, [], ◌∷◌, length, Some, refl, sym, subst, inl, arith}
use Rattle.std.specs.Prelude.{◌/◌, slice_get}
use Rattle.std.proofs.lemmas.List.Elements.{All-cons, All-nil}
use Rattle.std.proofs.lemmas.Option.{none-some, same_Some}
use Rattle.psy_arith.specs.declared.operators.Op2.{Op2}
use Rattle.psy_arith.specs.declared.operators.Op2.TheVariants.{Add}
use Rattle.psy_base.specs.declared.sizes.Sizes.{Sizes}
use Rattle.psy_code.specs.declared.code.Code.{Code}
use Rattle.psy_tree.specs.declared.unit.Unit.{Unit as Whole}
use Rattle.psy_base.specs.declared.edge.Edge.{Edge}
use Rattle.psy_base.specs.declared.limits.TheConstants.{BUDGET, QUANTUM, QUEUE, RING}
use Rattle.psy_base.specs.Extremes.{IsGreatest}
use Rattle.psy_dates.specs.declared.plan.Plan.{Plan}
use Rattle.psy_dates.specs.Plans.{IsFeasibleFor, IsPlan}
use Rattle.psy_history.specs.Actions.{timing}
use Rattle.psy_history.specs.Fitting.{undisturbed}
use Rattle.psy_history.specs.Processors.{processors}
use Rattle.psy_meaning.specs.BufferSizes.{AreSizes}
use Rattle.psy_meaning.specs.Demand.{Suffices}
use Rattle.psy_meaning.specs.Graph.{IsGraph, Spot}
use Rattle.psy_meaning.specs.KnownWays.{Listed, Looks}
use Rattle.psy_meaning.specs.QueueSizes.{HasSendsTo, IsQueueSize}
use Rattle.psy_meaning.specs.RingSizes.{IsRingSize}
use Rattle.psy_meaning.specs.Units.{Within}
use Rattle.psy_byhand.specs.Counters.{code_of, nexts, sizes_of, unit_of}
use Rattle.psy_byhand.specs.Laps.{variable_of}
use Rattle.psy_byhand.proofs.CounterFits.{counter_fits}
use Rattle.psy_byhand.proofs.CounterRuns.{code, counting, ways}
use Rattle.psy_byhand.proofs.LapGraph.{ComesAgain, lap_graph, laps_of, one_there, spots}
use Rattle.psy_byhand.proofs.LapPaths.{Alone, greatest_due, supplied}

-- The plan
abbrev pub plan_of : ℕ → ℕ → ℕ → Plan
plan_of quantum budget until = record {
  unit = unit_of quantum budget;
  code = code;
  nexts = nexts;
  sizes = sizes_of 1;
  until = until;
}

module _ (quantum budget : ℕ) where
  -- ---- buffers

  -- No way looks at a variable.
  no_look : (agent point variable : ℕ) → Looks (Listed ways) agent point variable → ⊥
  no_look zero zero variable c = omega (arith, c.1)
  no_look zero (suc zero) variable c = omega (arith, c.1)
  no_look zero (suc (suc point)) variable c = omega (arith, c.1)
  no_look (suc agent) point variable c = omega (arith, c.1)

  ring : (number size : ℕ) → slice_get (1 ∷ []) number ≡ Some size → IsRingSize (unit_of quantum budget) (Listed ways) nexts number size
  ring zero size e = record {
    most = 0;
    one = inl refl;
    all = λ dates (agent, point, date, due, decl, less, looks, due_in, declared, is). absurd (no_look agent point 0 looks);
    decl = variable_of 0;
    declared = refl;
    sum = sym (same_Some 1 size e);
  }
  ring (suc number) size e = absurd (none-some size e)

  no_queue : (stream size : ℕ) → slice_get [] stream ≡ Some size → IsQueueSize (unit_of quantum budget) (Listed ways) nexts stream size
  no_queue stream size e = absurd (none-some size e)

  outbox : (agent size : ℕ) → slice_get (0 ∷ []) agent ≡ Some size → IsGreatest (HasSendsTo (unit_of quantum budget) (Listed ways) nexts agent) size
  outbox zero size e =
      subst (IsGreatest (HasSendsTo (unit_of quantum budget) (Listed ways) nexts 0)) (same_Some 0 size e)
      (record { one = (0, 1, omega arith, one_there, refl); most = λ n (from, to, less, next, sends). omega (arith, sends) })
  outbox (suc agent) size e = absurd (none-some size e)

  buffers : AreSizes (unit_of quantum budget) (Listed ways) nexts (sizes_of 1)
  buffers = record {
    rings = record { count = refl; each = ring };
    small_rings = All-cons (λ size. size ≤ RING) 1 [] (omega arith) (All-nil (λ size. size ≤ RING));
    queues = record { count = refl; each = no_queue };
    small_queues = All-nil (λ size. size ≤ QUEUE);
    outboxes = record { count = refl; each = outbox };
  }

  -- ---- demand

  module _ (again : ComesAgain) (alone : Alone) (enough : budget ≤ 10 * quantum) where
    drawn : (agent : ℕ) (edges : List Edge) → slice_get (laps_of budget ∷ []) agent ≡ Some edges → (spots : List Spot) × IsGraph (timing (undisturbed (unit_of quantum budget) code nexts) agent) spots edges
    drawn zero edges e = (spots, subst (IsGraph (timing (undisturbed (unit_of quantum budget) code nexts) 0) spots) (same_Some (laps_of budget) edges e) (lap_graph again budget))
    drawn (suc agent) edges e = absurd (none-some edges e)

    suffices : (by : ℕ) → Suffices (laps_of budget ∷ []) quantum by
    suffices by =
        let demand = by / 10 * budget in
        (demand, (demand, 0, greatest_due budget by, refl, omega arith), supplied budget quantum by enough)

    -- Its agent is of the first processor, so there is no other.
    only : processors (unit_of quantum budget) ≡ 1
    unfolding processors
    only = refl

    feasible : (until : ℕ) → IsFeasibleFor (plan_of quantum budget until)
    feasible until = record {
      graphs = laps_of budget ∷ [];
      drawn = record { count = refl; each = drawn };
      feasible = alone (unit_of quantum budget) (laps_of budget ∷ []) quantum until only (λ length some within. suffices length);
    }

    pub is_plan : (until : ℕ) → Within 1 QUANTUM quantum → Within 1 BUDGET budget → IsPlan (plan_of quantum budget until)
    is_plan until cycles granted = record {
      ways = ways;
      fits = counter_fits quantum budget cycles granted again;
      nexts = refl;
      buffers = buffers;
      supplied = feasible until;
    }

    -- So is what is made of such parts.
    pub made_plan : (op : Op2) (unit : Whole) (its : Code) (lists : List (List (List ℕ))) (sizes : Sizes) (until : ℕ) → Within 1 QUANTUM quantum → Within 1 BUDGET budget → op ≡ Add → unit ≡ unit_of quantum budget
        → its ≡ code_of (counting op) → lists ≡ nexts → sizes ≡ sizes_of 1 → IsPlan (record { unit = unit; code = its; nexts = lists; sizes = sizes; until = until })
    made_plan op unit its lists sizes until cycles granted adds of_unit of_code of_nexts of_sizes =
        let same : plan_of quantum budget until ≡ record { unit = unit; code = its; nexts = lists; sizes = sizes; until = until } = rw (of_unit, of_code, adds, of_nexts, of_sizes) refl in
        subst IsPlan same (is_plan until cycles granted)
