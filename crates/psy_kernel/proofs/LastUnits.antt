-- The unit that was done last, and what is shared behind it.
use Rattle.std.proofs.Common.{◌≡◌, refl, sym, ap, subst, arith}
use Rattle.std.specs.Prelude.{ℕ, ◌+◌, ◌<◌, ◌==◌, Bool, true, false, if◌then◌else◌, List, Option, None, Some}
use Rattle.std.proofs.lemmas.Option.{slice_get-get_or}
use Rattle.psy_dates.specs.declared.shared.Shared.{Shared}
use Rattle.psy_dates.specs.Standing.{SharedStands}
use Rattle.psy_history.specs.Processors.{processor_at, processors}
use Rattle.psy_history.specs.Schedule.{Turn}
use Rattle.psy_history.specs.Scheduled.{turns_of}
use Rattle.psy_kernel.specs.Engines.{done_on, history_of, ties, turns_done}
use Rattle.psy_kernel.specs.Kernels.{KernelStands, LastStands, progress_of, unit_of}
use Rattle.psy_kernel.specs.Progress.{IsSeenIn, Progress, counted, order, ran_in, system, turns_so_far}
use Rattle.psy_kernel.specs.Units.{IsLookAt, served_at}
use Rattle.psy_kernel.specs.declared.kernel.Kernel.TheInside.{Inside}
use Rattle.psy_kernel.specs.declared.kernel.LastUnit.{LastUnit}

-- ---- what is known of it

module _ (k : Inside) (is : KernelStands k) (p : Progress) (view : progress_of k ≡ p) where
  pub ran_some : (last : LastUnit) → k.last ≡ Some last → last.ran ≡ ran_in p p.last
  ran_some last there =
      let stands = subst (LastStands (system (progress_of k)) k.engine.plan (order (progress_of k))) there is.last in
      subst (λ (q : Progress). last.ran ≡ ran_in q q.last) view (subst (λ l. last.ran ≡ ran_in (progress_of k) (unit_of l)) (sym there) stands.0)

  pub ran_none : k.last ≡ None → None ≡ ran_in p p.last
  ran_none there = subst (λ (q : Progress). None ≡ ran_in q q.last) view (subst (λ l. None ≡ ran_in (progress_of k) (unit_of l)) (sym there) refl)

  pub seen_some : (last : LastUnit) → k.last ≡ Some last → IsSeenIn p p.last last.seen
  seen_some last there =
      let stands = subst (LastStands (system (progress_of k)) k.engine.plan (order (progress_of k))) there is.last in
      subst (λ (q : Progress). IsSeenIn q q.last last.seen) view (subst (λ l. IsSeenIn (progress_of k) (unit_of l) last.seen) (sym there) stands.1)

  pub seen_none : k.last ≡ None → IsSeenIn p p.last None
  seen_none there = subst (λ (q : Progress). IsSeenIn q q.last None) view (subst (λ l. IsSeenIn (progress_of k) (unit_of l) None) (sym there) refl)

  -- ---- what is shared

  module _ (homes : (agent : ℕ) → processor_at k.engine.plan.unit agent < processors k.engine.plan.unit) where
    turns_same : (agent : ℕ) → turns_done k.engine agent ≡ turns_so_far (progress_of k) agent
    turns_same agent =
        let home = processor_at k.engine.plan.unit agent in
        ap (λ n. turns_of (history_of k.engine) (ties k.engine) n home)
        (is.exact home (done_on k.engine home) (slice_get-get_or k.engine.done home 0 (omega (arith, homes agent, is.served))))

    pub shared_stands : (shared : Shared) → SharedStands (history_of k.engine) k.engine.plan.sizes (turns_done k.engine) k.engine.dates shared → SharedStands (system p) p.plan.sizes (turns_so_far p) p.dates shared
    shared_stands shared stands =
        subst (λ (q : Progress). SharedStands (system q) q.plan.sizes (turns_so_far q) q.dates shared) view
        (subst (λ (turns : ℕ → List (Option Turn)). SharedStands (history_of k.engine) k.engine.plan.sizes turns k.engine.dates shared) (λ i agent. turns_same agent i) stands)

-- ---- behind a unit

-- It is known of the run whatever is counted.
last_counted : (p : Progress) (last : LastUnit) → LastStands (system p) p.plan (order p) (Some last) → LastStands (system (counted p)) (counted p).plan (order (counted p)) (Some last)
last_counted p last stands = by (p.units + 1 == processors p.plan.unit)
  where
    by : (test : Bool) → (let q : Progress = if test then record p { cycles = p.cycles + 1; units = 0 } else record p { units = p.units + 1 } in LastStands (system q) q.plan (order q) (Some last))
    by true = stands
    by false = stands

-- What came next was the unit that is the last one then.
pub last_stands : (k now : Inside) (p : Progress) → progress_of k ≡ p → progress_of now ≡ counted p → (last : LastUnit) → last.ran ≡ served_at (history_of k.engine) (ties k.engine) last.processor last.cycle
    → IsLookAt (history_of k.engine) k.engine.plan (ties k.engine) last.processor last.cycle last.seen → LastStands (system (progress_of now)) now.engine.plan (order (progress_of now)) (Some last)
last_stands k now p view next last ran seen =
    let before : LastStands (system p) p.plan (order p) (Some last) = subst (λ (q : Progress). LastStands (system q) q.plan (order q) (Some last)) view (ran, seen) in
    subst (λ (q : Progress). LastStands (system q) q.plan (order q) (Some last)) (sym next) (last_counted p last before)
