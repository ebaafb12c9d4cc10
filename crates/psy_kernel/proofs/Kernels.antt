-- A kernel before its first unit, and behind a line.
use Rattle.std.proofs.Common.{◌≡◌, sym, ap, ◌∙◌, subst, arith}
use Rattle.std.specs.Prelude.{ℕ, ◌+◌, ◌<◌, ◌==◌, if◌then◌else◌, List, length, take, None, Some, slice_get, ℤ}
use Rattle.std.specs.List.{list_any, range_with_len}
use Rattle.std.proofs.lemmas.List.{length-replicate}
use Rattle.psy_dates.specs.declared.plan.Plan.{Plan}
use Rattle.psy_dates.specs.Plans.{IsPlan}
use Rattle.psy_tree.specs.declared.unit.Unit.{Unit as Whole}
use Rattle.psy_history.specs.Processors.{processors}
use Rattle.psy_history.specs.Scripts.{IsScript, round_of}
use Rattle.psy_history.specs.declared.told.Script.{Script}
use Rattle.psy_kernel.specs.Engines.{EngineState, begun}
use Rattle.psy_kernel.specs.Kernels.{AreTurned, KernelStands, LastStands, progress_of}
use Rattle.psy_kernel.specs.declared.kernel.LastUnit.{LastUnit}
use Rattle.psy_kernel.specs.Progress.{order, system}
use Rattle.psy_kernel.specs.Standing.{InTick}
use Rattle.psy_kernel.specs.declared.kernel.Kernel.TheInside.{Inside}
use Rattle.psy_kernel.proofs.Booted.{replicated_at}

pub some_processor : (unit : Whole) → 0 < processors unit
unfolding processors
some_processor unit = omega arith

-- Before the first unit each processor did no cycle.
pub stands_first : (k : Inside) (plan : Plan) (inputs : List (List ℤ)) (script : Script) → IsPlan plan → IsScript plan.unit script → k.engine ≡ begun plan inputs script → k.cycles ≡ 0 → k.units ≡ 0
    → k.declared.items ≡ range_with_len 0 (processors plan.unit) → AreTurned script.rounds k.turned 0 → k.last ≡ None → KernelStands k
stands_first k plan inputs script is_plan is_script begins none_done none_had declared turned no_last = record {
  plan = subst (λ (e : EngineState). IsPlan e.plan) (sym begins) is_plan;
  script = subst (λ (e : EngineState). IsScript e.plan.unit e.script) (sym begins) is_script;
  in_tick = subst (λ (e : EngineState). InTick e.plan.unit.quantum e.plan.until e.dates k.cycles) (sym begins) none_done;
  units = omega (arith, none_had, some_processor k.engine.plan.unit);
  inside = λ some. absurd (omega (arith, some, none_had));
  served = subst (λ (e : EngineState). length e.done ≡ processors e.plan.unit) (sym begins) (length-replicate (processors plan.unit) 0);
  exact = λ processor done there.
      subst (λ units. done ≡ (if list_any (λ m. m == processor) (take units (round_of k.engine.plan.unit k.engine.script k.cycles)) then k.cycles + 1 else k.cycles)) (sym none_had)
      (replicated_at 0 (processors plan.unit) processor done (subst (λ (e : EngineState). slice_get e.done processor ≡ Some done) begins there) ∙ sym none_done);
  declared = declared ∙ ap (λ (e : EngineState). range_with_len 0 (processors e.plan.unit)) (sym begins);
  turned = subst (λ (e : EngineState). AreTurned e.script.rounds k.turned k.cycles) (sym begins) (subst (AreTurned script.rounds k.turned) (sym none_done) turned);
  last = subst (LastStands (system (progress_of k)) k.engine.plan (order (progress_of k))) (sym no_last) (tt {0});
}

-- What was told counts for nothing.
pub stands_told : (k : Inside) (given : ℕ) → KernelStands k → KernelStands (record k { engine = record k.engine { given = given } })
stands_told k given is = record {
  plan = is.plan;
  script = is.script;
  in_tick = is.in_tick;
  units = is.units;
  inside = is.inside;
  served = is.served;
  exact = is.exact;
  declared = is.declared;
  turned = is.turned;
  last = is.last;
}

-- Which unit was the last step, where it was none
pub stands_rested : (k : Inside) → KernelStands k → KernelStands (record k { last = None })
stands_rested k is = record {
  plan = is.plan;
  script = is.script;
  in_tick = is.in_tick;
  units = is.units;
  inside = is.inside;
  served = is.served;
  exact = is.exact;
  declared = is.declared;
  turned = is.turned;
  last = tt {0};
}

-- The same where it was one.
pub stands_last : (k : Inside) (last : LastUnit) → KernelStands k → LastStands (system (progress_of k)) k.engine.plan (order (progress_of k)) (Some last) → KernelStands (record k { last = Some last })
stands_last k last is told = record {
  plan = is.plan;
  script = is.script;
  in_tick = is.in_tick;
  units = is.units;
  inside = is.inside;
  served = is.served;
  exact = is.exact;
  declared = is.declared;
  turned = is.turned;
  last = told;
}
