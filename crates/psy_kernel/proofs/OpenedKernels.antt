-- A kernel that goes on from a state, before its first unit.
use Rattle.std.proofs.Common.{◌≡◌, sym, ap, ◌∙◌, subst, arith}
use Rattle.std.specs.Prelude.{◌+◌, ◌*◌, ◌≤◌, ◌==◌, if◌then◌else◌, List, length, take, None, Some, slice_get, ℤ}
use Rattle.std.specs.List.{list_any, range_with_len}
use Rattle.std.proofs.Math.Numerals.{add-one}
use Rattle.std.proofs.lemmas.List.{length-replicate}
use Rattle.psy_dates.specs.declared.opening.Opening.{Opening as State}
use Rattle.psy_dates.specs.declared.plan.Plan.{Plan}
use Rattle.psy_dates.specs.Plans.{IsPlan}
use Rattle.psy_history.specs.Processors.{processors}
use Rattle.psy_history.specs.Scripts.{IsScript, round_of}
use Rattle.psy_history.specs.declared.told.Script.{Script}
use Rattle.psy_kernel.specs.Engines.{EngineState, begun_behind}
use Rattle.psy_kernel.specs.Kernels.{AreTurned, KernelStands, LastStands, progress_of}
use Rattle.psy_kernel.specs.Progress.{order, system}
use Rattle.psy_kernel.specs.Standing.{InTick}
use Rattle.psy_kernel.specs.declared.kernel.Kernel.TheInside.{Inside}
use Rattle.psy_kernel.proofs.Booted.{replicated_at}
use Rattle.psy_kernel.proofs.Dated.{tick_after}
use Rattle.psy_kernel.proofs.Kernels.{some_processor}

-- Each processor did the cycles before the state's date.
pub stands_behind : (k : Inside) (plan : Plan) (inputs : List (List ℤ)) (script : Script) (state : State) → IsPlan plan → IsScript plan.unit script
    → state.date ≤ plan.until
    → k.engine ≡ begun_behind plan inputs script state → k.cycles ≡ state.date * plan.unit.quantum → k.units ≡ 0
    → k.declared.items ≡ range_with_len 0 (processors plan.unit) → AreTurned script.rounds k.turned k.cycles → k.last ≡ None → KernelStands k
stands_behind k plan inputs script state is_plan is_script near begins all_done none_had declared turned no_last = record {
  plan = subst (λ (e : EngineState). IsPlan e.plan) (sym begins) is_plan;
  script = subst (λ (e : EngineState). IsScript e.plan.unit e.script) (sym begins) is_script;
  in_tick = subst (λ (e : EngineState). InTick e.plan.unit.quantum e.plan.until e.dates k.cycles) (sym begins)
      (subst (λ d. InTick plan.unit.quantum plan.until d k.cycles) (sym (add-one state.date)) (tick_after plan.unit.quantum plan.until state.date k.cycles near all_done));
  units = omega (arith, none_had, some_processor k.engine.plan.unit);
  inside = λ some. absurd (omega (arith, some, none_had));
  served = subst (λ (e : EngineState). length e.done ≡ processors e.plan.unit) (sym begins) (length-replicate (processors plan.unit) (state.date * plan.unit.quantum));
  exact = λ processor done there.
      subst (λ units. done ≡ (if list_any (λ m. m == processor) (take units (round_of k.engine.plan.unit k.engine.script k.cycles)) then k.cycles + 1 else k.cycles)) (sym none_had)
      (replicated_at (state.date * plan.unit.quantum) (processors plan.unit) processor done (subst (λ (e : EngineState). slice_get e.done processor ≡ Some done) begins there) ∙ sym all_done);
  declared = declared ∙ ap (λ (e : EngineState). range_with_len 0 (processors e.plan.unit)) (sym begins);
  turned = subst (λ (e : EngineState). AreTurned e.script.rounds k.turned k.cycles) (sym begins) turned;
  last = subst (LastStands (system (progress_of k)) k.engine.plan (order (progress_of k))) (sym no_last) (tt {0});
}
