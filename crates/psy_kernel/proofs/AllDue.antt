-- A date that is due: all processors did the cycles before it, and no more.
use Rattle.std.proofs.Common.{◌≡◌, ◌≢◌, sym, ◌∙◌, subst, inl, inr, arith, add-one}
use Rattle.std.specs.Prelude.{ℕ, ◌+◌, ◌≤◌, ◌==◌, if◌then◌else◌, get_or, take, Some, slice_get}
use Rattle.std.specs.List.{All, list_any}
use Rattle.std.proofs.lemmas.Bool.{cases_lt}
use Rattle.std.proofs.lemmas.Option.{slice_get-get_or}
use Rattle.psy_history.specs.Scripts.{round_of}
use Rattle.psy_kernel.specs.declared.stage.Stage.TheVariants.{DateDue}
use Rattle.psy_kernel.specs.Engines.{next_date}
use Rattle.psy_kernel.specs.Kernels.{KernelStands, progress_of}
use Rattle.psy_kernel.specs.Progress.{Progress, stage_of}
use Rattle.psy_kernel.specs.Standing.{InTick}
use Rattle.psy_kernel.specs.declared.kernel.Kernel.TheInside.{Inside}
use Rattle.psy_kernel.proofs.Dated.{tick_after}
use Rattle.psy_kernel.proofs.Stages.{date_due, early_until}

module _ (k : Inside) (is : KernelStands k) (p : Progress) (view : progress_of k ≡ p) (due : stage_of p ≡ DateDue p.dates) where
  due_in : (k.engine.dates ≢ k.engine.plan.until + 1) × (k.cycles ≡ next_date k.engine)
  due_in = date_due (progress_of k) (subst (λ (q : Progress). stage_of q ≡ DateDue q.dates) (sym view) due)

  pub early_in : k.engine.dates ≤ k.engine.plan.until
  early_in = early_until k.engine.plan.unit.quantum k.engine.plan.until k.engine.dates k.cycles is.in_tick due_in.0

  -- no cycle was begun
  none_begun : k.units ≡ 0
  none_begun = elim (cases_lt 0 k.units) [
    | inl some ↦ absurd (omega (arith, is.inside (omega (arith, some)), due_in.1))
    | inr none ↦ omega (arith, none)
  ]

  filled_by : (processor done : ℕ) → slice_get k.engine.done processor ≡ Some done → done ≡ k.cycles
  filled_by processor done there =
      subst (λ units. done ≡ (if list_any (λ m. m == processor) (take units (round_of k.engine.plan.unit k.engine.script k.cycles)) then k.cycles + 1 else k.cycles)) none_begun (is.exact processor done there)

  pub all_due : All (λ done. done ≡ next_date k.engine) k.engine.done
  all_due processor d less = filled_by processor (get_or k.engine.done processor d) (slice_get-get_or k.engine.done processor d less) ∙ due_in.1

  -- Behind the date they stand for it.
  pub stands_after : KernelStands (record k { engine = record k.engine { dates = k.engine.dates + 1; given = 0 } })
  stands_after = record {
    plan = is.plan;
    script = is.script;
    in_tick = subst (λ dates. InTick k.engine.plan.unit.quantum k.engine.plan.until dates k.cycles) (sym (add-one k.engine.dates)) (tick_after k.engine.plan.unit.quantum k.engine.plan.until k.engine.dates k.cycles early_in due_in.1);
    units = is.units;
    inside = λ some. absurd (omega (arith, some, none_begun));
    served = is.served;
    exact = is.exact;
    declared = is.declared;
    turned = is.turned;
    last = is.last;
  }
