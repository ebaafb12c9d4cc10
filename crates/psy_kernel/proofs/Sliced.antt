-- A slice and a tick: all processors go up to a cycle, which is the first change of the one that leads, or the next date's first.
use Rattle.std.proofs.Common.{◌≡◌, ◌≢◌, refl, sym, ap, ◌∙◌, subst, inl, inr, arith}
use Rattle.std.specs.Prelude.{ℕ, ◌+◌, ◌-◌, ◌*◌, ◌<◌, ◌≤◌, ◌==◌, true, false, if◌then◌else◌, IfSome, List, replicate, take, Option, None, Some, slice_get}
use Rattle.std.specs.List.{list_any}
use Rattle.std.proofs.lemmas.Bool.{cases_eq, cases_lt, true≢false}
use Rattle.std.proofs.lemmas.List.{length-replicate}
use Rattle.std.proofs.lemmas.Option.{slice_get-get_or}
use Rattle.psy_history.specs.Processors.{processor_at, processors}
use Rattle.psy_history.specs.Schedule.{is_pending}
use Rattle.psy_history.specs.Scripts.{round_of}
use Rattle.psy_kernel.specs.declared.stage.Stage.TheVariants.{DateDue, CycleDue}
use Rattle.psy_kernel.specs.Engines.{ChangesOn, EngineState, IsIdleOn, done_on, history_of, next_date, ties, turns_on}
use Rattle.psy_kernel.specs.Kernels.{AreTurned, KernelStands, progress_of}
use Rattle.psy_kernel.specs.Progress.{Progress, stage_of}
use Rattle.psy_kernel.specs.Slices.{Changes, IsIdleFor, IsSliceEnd}
use Rattle.psy_kernel.specs.Standing.{InTick}
use Rattle.psy_kernel.specs.declared.kernel.Kernel.TheInside.{Inside}
use Rattle.psy_kernel.proofs.Booted.{replicated_at}
use Rattle.psy_kernel.proofs.CyclesDone.{stays_over}
use Rattle.psy_kernel.proofs.Stages.{cycle_due, early_until, filled, inside_date, not_filled}
use Rattle.psy_kernel.proofs.Ticks.{IsInside, tick_kept}

-- Where no cycle was begun, each processor did the cycles.
pub done_whole : (k : Inside) → KernelStands k → k.units ≡ 0 → (processor : ℕ) → processor < processors k.engine.plan.unit → done_on k.engine processor ≡ k.cycles
done_whole k is whole processor less =
    subst (λ units. done_on k.engine processor ≡ (if list_any (λ m. m == processor) (take units (round_of k.engine.plan.unit k.engine.script k.cycles)) then k.cycles + 1 else k.cycles)) whole
    (is.exact processor (done_on k.engine processor) (slice_get-get_or k.engine.done processor 0 (omega (arith, less, is.served))))

-- ---- a kernel whose cycle is due

module _ (k : Inside) (is : KernelStands k) (p : Progress) (view : progress_of k ≡ p) (due : stage_of p ≡ CycleDue p.cycles) where
  due_in : (k.engine.dates ≢ k.engine.plan.until + 1) × (k.cycles ≢ k.engine.dates * k.engine.plan.unit.quantum) × (k.units ≡ 0)
  due_in = cycle_due (progress_of k) (subst (λ (q : Progress). stage_of q ≡ CycleDue q.cycles) (sym view) due)

  pub early_in : k.engine.dates ≤ k.engine.plan.until
  early_in = early_until k.engine.plan.unit.quantum k.engine.plan.until k.engine.dates k.cycles is.in_tick due_in.0

  inside : (date : ℕ) × IsInside k.engine.plan.unit.quantum k.engine.plan.until k.engine.dates k.cycles date
  inside = inside_date k.engine.plan.unit.quantum k.engine.plan.until k.engine.dates k.cycles is.in_tick (due_in.0, due_in.1)

  pub before_date : k.cycles < next_date k.engine
  before_date = subst (λ dates. k.cycles < dates * k.engine.plan.unit.quantum) (sym inside.1.0) inside.1.3

  -- each processor did the cycles, and no more
  pub exact_in : (processor n : ℕ) → slice_get k.engine.done processor ≡ Some n → n ≡ k.cycles
  exact_in processor n there =
      subst (λ units. n ≡ (if list_any (λ m. m == processor) (take units (round_of k.engine.plan.unit k.engine.script k.cycles)) then k.cycles + 1 else k.cycles)) due_in.2 (is.exact processor n there)

  pub done_in : (processor : ℕ) → processor < processors k.engine.plan.unit → done_on k.engine processor ≡ k.cycles
  done_in processor less = exact_in processor (done_on k.engine processor) (slice_get-get_or k.engine.done processor 0 (omega (arith, less, is.served)))

  -- a date is due where cycles of the tick fill it,
  pub fills : (cycles : ℕ) → p.cycles < cycles → cycles ≤ p.dates * p.plan.unit.quantum → (t : ℕ) → cycles ≡ t * p.plan.unit.quantum → stage_of (record p { cycles = cycles }) ≡ DateDue t
  fills = subst (λ (q : Progress). (cycles : ℕ) → q.cycles < cycles → cycles ≤ q.dates * q.plan.unit.quantum → (t : ℕ) → cycles ≡ t * q.plan.unit.quantum → stage_of (record q { cycles = cycles }) ≡ DateDue t) view by
    where
      by : (cycles : ℕ) → k.cycles < cycles → cycles ≤ k.engine.dates * k.engine.plan.unit.quantum → (t : ℕ) → cycles ≡ t * k.engine.plan.unit.quantum → stage_of (record (progress_of k) { cycles = cycles }) ≡ DateDue t
      by cycles above high t filled_is =
          filled (progress_of k) inside.0 inside.1 is.plan.fits.bare.quantum.0 cycles above (subst (λ dates. cycles ≤ dates * k.engine.plan.unit.quantum) inside.1.0 high) t filled_is

  -- and else the next cycle is.
  pub goes_on : (cycles : ℕ) → p.cycles < cycles → cycles ≤ p.dates * p.plan.unit.quantum → ((t : ℕ) → cycles ≡ t * p.plan.unit.quantum → ⊥) → stage_of (record p { cycles = cycles }) ≡ CycleDue cycles
  goes_on = subst (λ (q : Progress). (cycles : ℕ) → q.cycles < cycles → cycles ≤ q.dates * q.plan.unit.quantum → ((t : ℕ) → cycles ≡ t * q.plan.unit.quantum → ⊥) → stage_of (record q { cycles = cycles }) ≡ CycleDue cycles) view by
    where
      by : (cycles : ℕ) → k.cycles < cycles → cycles ≤ k.engine.dates * k.engine.plan.unit.quantum → ((t : ℕ) → cycles ≡ t * k.engine.plan.unit.quantum → ⊥) → stage_of (record (progress_of k) { cycles = cycles }) ≡ CycleDue cycles
      by cycles above high none =
          not_filled (progress_of k) inside.0 inside.1 is.plan.fits.bare.quantum.0 cycles above (subst (λ dates. cycles ≤ dates * k.engine.plan.unit.quantum) inside.1.0 high) (none k.engine.dates) due_in.2

  -- ---- behind cycles of all processors

  module _ (end : ℕ) (above : k.cycles < end) (within : end ≤ next_date k.engine) where
    pub stands_at : (turned : ℕ) → AreTurned k.engine.script.rounds turned end
        → KernelStands (record k { engine = record k.engine { done = replicate (processors k.engine.plan.unit) end }; cycles = end; turned = turned })
    stands_at turned now = record {
      plan = is.plan;
      script = is.script;
      in_tick = (
          let on : k.cycles + (end - k.cycles) ≡ end = omega (arith, above) in
          let high : k.cycles + (end - k.cycles) ≤ (inside.0 + 1) * k.engine.plan.unit.quantum = subst (λ n. n ≤ (inside.0 + 1) * k.engine.plan.unit.quantum) (sym on) (subst (λ dates. end ≤ dates * k.engine.plan.unit.quantum) inside.1.0 within) in
          subst (λ n. InTick k.engine.plan.unit.quantum k.engine.plan.until k.engine.dates n) on (tick_kept k.engine.plan.unit.quantum k.engine.plan.until k.engine.dates k.cycles inside.0 (end - k.cycles) inside.1 high));
      units = is.units;
      inside = λ some. absurd (omega (arith, some, due_in.2));
      served = length-replicate (processors k.engine.plan.unit) end;
      exact = λ processor n at.
          subst (λ units. n ≡ (if list_any (λ m. m == processor) (take units (round_of k.engine.plan.unit k.engine.script end)) then end + 1 else end)) (sym due_in.2)
          (replicated_at end (processors k.engine.plan.unit) processor n at);
      declared = is.declared;
      turned = now;
      last = is.last;
    }

    -- ---- the slice that one processor leads

    module _ (leader : ℕ) (idle : (processor : ℕ) → processor < processors p.plan.unit → (processor ≡ leader → ⊥) → IsIdleFor p processor)
        (homes : (agent : ℕ) → processor_at k.engine.plan.unit agent < processors k.engine.plan.unit)
        (change : end < next_date k.engine → ChangesOn k.engine leader end) (first : (between : ℕ) → k.cycles < between → between < end → ChangesOn k.engine leader between → ⊥) where
      idle_in : (processor : ℕ) → processor < processors k.engine.plan.unit → (processor ≡ leader → ⊥) → IsIdleFor (progress_of k) processor
      idle_in = subst (λ (q : Progress). (processor : ℕ) → processor < processors q.plan.unit → (processor ≡ leader → ⊥) → IsIdleFor q processor) (sym view) idle

      changes_in : Changes (progress_of k) end
      changes_in = elim (cases_lt end (next_date k.engine)) [
        | inl less ↦ elim (change less) [
          | inl filled_is ↦ inl filled_is
          | inr more ↦ elim more [
            | inl over ↦ (let agent = over.0 in let r = over.1 in inr (inl (
              agent,
              r,
              over.3,
              subst (λ q. is_pending (turns_on k.engine q (end - 1)) r ≡ true) (sym over.2) over.4,
              subst (λ q. is_pending (turns_on k.engine q end) r ≡ false) (sym over.2) over.5,
            )))
            | inr ordered ↦ inr (inr ordered)
          ]
        ]
        | inr more ↦ inl (omega (arith, more, within))
      ]

      first_in : (between : ℕ) → k.cycles < between → between < end → Changes (progress_of k) between → ⊥
      first_in between higher below changes = elim changes [
        | inl filled_is ↦ omega (arith, filled_is, below, within)
        | inr more ↦ elim more [
          | inl over ↦ (
              let home : ℕ = processor_at k.engine.plan.unit over.0 in
              elim (cases_eq home leader) [
                | inl here ↦ first between higher below (inr (inl (
                  over.0,
                  over.1,
                  here,
                  over.2,
                  subst (λ q. is_pending (turns_on k.engine q (between - 1)) over.1 ≡ true) here over.3,
                  subst (λ q. is_pending (turns_on k.engine q between) over.1 ≡ false) here over.4,
                )))
                | inr other ↦
                    true≢false (sym over.3 ∙ stays_over (history_of k.engine) (ties k.engine) home over.1 k.cycles (between - 1) (omega (arith, higher)) (idle_in home (homes over.0) other over.0 over.1 refl over.2))
              ])
          | inr ordered ↦ first between higher below (inr (inr ordered))
        ]
      ]

      pub ends_slice : IsSliceEnd p end
      ends_slice = subst (λ (q : Progress). IsSliceEnd q end) view (record { some = above; changes = changes_in; first = first_in })

    pub within_date : end ≤ p.dates * p.plan.unit.quantum
    within_date = subst (λ (q : Progress). end ≤ q.dates * q.plan.unit.quantum) view within

  -- of an idle processor no action is under way
  pub idle_from : (processor : ℕ) → processor < processors p.plan.unit → IsIdleOn k.engine processor → IsIdleFor p processor
  idle_from =
      subst (λ (q : Progress). (processor : ℕ) → processor < processors q.plan.unit → IsIdleOn k.engine processor → IsIdleFor q processor) view
      (λ processor less idle agent r home there. subst (λ c. is_pending (turns_on k.engine processor c) r ≡ false) (done_in processor less) (idle agent r home there))

  pub leads_alone : (leader : Option ℕ) → IfSome leader (λ n. (processor : ℕ) → processor < processors k.engine.plan.unit → (processor ≡ n → ⊥) → IsIdleOn k.engine processor)
      → IfSome leader (λ n. (processor : ℕ) → processor < processors p.plan.unit → (processor ≡ n → ⊥) → IsIdleFor p processor)
  leads_alone None h = h
  leads_alone (Some n) h = λ processor less other. idle_from processor less (h processor (subst (λ (q : Progress). processor < processors q.plan.unit) (sym view) less) other)

-- ---- as the code goes

-- What all processors did up to a cycle, whatever one of them did before
pub all_behind : (e mid now : EngineState) (done : List ℕ) (end : ℕ) → mid ≡ record e { done = done } → now ≡ record mid { done = replicate (processors mid.plan.unit) end } → now ≡ record e { done = replicate (processors e.plan.unit) end }
all_behind e mid now done end state is = is ∙ ap (λ (m : EngineState). record m { done = replicate (processors m.plan.unit) end }) state
