-- The relay's plan is one: its code fits, its buffers are as large as they have to be, and its demand is supplied.
use Rattle.std.proofs.Common.{◌≡◌, ℕ, zero, suc, ◌+◌, ◌*◌, ◌≤◌, List, [], ◌∷◌, Some, refl, subst, arith}
use Rattle.std.specs.Prelude.{◌/◌, slice_get}
use Rattle.std.proofs.Math.Nat.{mul-add}
use Rattle.std.proofs.lemmas.Option.{none-some, same_Some}
use Rattle.psy_arith.specs.declared.operators.Op2.{Op2}
use Rattle.psy_arith.specs.declared.operators.Op2.TheVariants.{Add}
use Rattle.psy_base.specs.declared.sizes.Sizes.{Sizes}
use Rattle.psy_code.specs.declared.code.Code.{Code}
use Rattle.psy_tree.specs.declared.unit.Unit.{Unit as Whole}
use Rattle.psy_base.specs.declared.edge.Edge.{Edge}
use Rattle.psy_base.specs.declared.limits.TheConstants.{BUDGET, QUANTUM}
use Rattle.psy_dates.specs.declared.plan.Plan.{Plan}
use Rattle.psy_dates.specs.Plans.{IsFeasibleFor, IsPlan}
use Rattle.psy_history.specs.Actions.{timing}
use Rattle.psy_history.specs.Fitting.{undisturbed}
use Rattle.psy_history.specs.Processors.{processors}
use Rattle.psy_meaning.specs.Demand.{Suffices}
use Rattle.psy_meaning.specs.Graph.{IsGraph, Spot}
use Rattle.psy_meaning.specs.Units.{Within}
use Rattle.psy_byhand.specs.Relays.{code_of, nexts, sizes_of, unit_of}
use Rattle.psy_byhand.proofs.LapGraph.{ComesAgain, lap_graph, laps_of, spots}
use Rattle.psy_byhand.proofs.LapPaths.{Alone, greatest_due, supplied}
use Rattle.psy_byhand.proofs.RelayBuffers.{AreCounted, buffers}
use Rattle.psy_byhand.proofs.RelayFits.{relay_fits}
use Rattle.psy_byhand.proofs.RelayRuns.{code, relaying, ways}

-- The plan
abbrev pub plan_of : ℕ → ℕ → ℕ → Plan
plan_of quantum budget until = record {
  unit = unit_of quantum budget;
  code = code;
  nexts = nexts;
  sizes = sizes_of 1 3 1;
  until = until;
}

module _ (again : ComesAgain) (counted : AreCounted) (alone : Alone) (quantum budget : ℕ) (enough : 2 * budget ≤ 10 * quantum) where
  drawn : (agent : ℕ) (edges : List Edge) → slice_get (laps_of budget ∷ laps_of budget ∷ []) agent ≡ Some edges → (spots : List Spot) × IsGraph (timing (undisturbed (unit_of quantum budget) code nexts) agent) spots edges
  drawn zero edges e = (spots, subst (IsGraph (timing (undisturbed (unit_of quantum budget) code nexts) 0) spots) (same_Some (laps_of budget) edges e) (lap_graph again budget))
  drawn (suc zero) edges e = (spots, subst (IsGraph (timing (undisturbed (unit_of quantum budget) code nexts) 1) spots) (same_Some (laps_of budget) edges e) (lap_graph again budget))
  drawn (suc (suc agent)) edges e = absurd (none-some edges e)

  suffices : (by : ℕ) → Suffices (laps_of budget ∷ laps_of budget ∷ []) quantum by
  suffices by =
      let demand = by / 10 * budget in
      let both = supplied (budget + budget) quantum by (omega (arith, enough)) in
      (demand + demand, (demand, demand, greatest_due budget by, (demand, 0, greatest_due budget by, refl, omega arith), refl), omega (arith, both, mul-add (by / 10) budget budget))

  -- Both agents are of the first processor, so there is no other.
  only : processors (unit_of quantum budget) ≡ 1
  unfolding processors
  only = refl

  feasible : (until : ℕ) → IsFeasibleFor (plan_of quantum budget until)
  feasible until = record {
    graphs = laps_of budget ∷ laps_of budget ∷ [];
    drawn = record { count = refl; each = drawn };
    feasible = alone (unit_of quantum budget) (laps_of budget ∷ laps_of budget ∷ []) quantum until only (λ length some within. suffices length);
  }

  pub is_plan : (until : ℕ) → Within 1 QUANTUM quantum → Within 1 BUDGET budget → IsPlan (plan_of quantum budget until)
  is_plan until cycles granted = record {
    ways = ways;
    fits = relay_fits quantum budget cycles granted again;
    nexts = refl;
    buffers = buffers again counted quantum budget;
    supplied = feasible until;
  }

  -- So is what is made of such parts.
  pub made_plan : (op : Op2) (unit : Whole) (its : Code) (lists : List (List (List ℕ))) (sizes : Sizes) (until : ℕ) → Within 1 QUANTUM quantum → Within 1 BUDGET budget → op ≡ Add → unit ≡ unit_of quantum budget
      → its ≡ code_of (relaying op) → lists ≡ nexts → sizes ≡ sizes_of 1 3 1 → IsPlan (record { unit = unit; code = its; nexts = lists; sizes = sizes; until = until })
  made_plan op unit its lists sizes until cycles granted adds of_unit of_code of_nexts of_sizes =
      let same : plan_of quantum budget until ≡ record { unit = unit; code = its; nexts = lists; sizes = sizes; until = until } = rw (of_unit, of_code, adds, of_nexts, of_sizes) refl in
      subst IsPlan same (is_plan until cycles granted)
