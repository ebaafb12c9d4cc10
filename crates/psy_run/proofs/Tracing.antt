-- A run and one step more, as for its trace and its state: it stops where the run does, or at that step, and else gives what is told of the run.
use Rattle.std.proofs.Common.{◌≡◌, ap, subst, sym, ℕ, List, Option, inl, inr, Result, Ok, Err, IfOk, IfErr}
use Rattle.std.specs.Prelude.{OnOk}
use Rattle.psy_door.specs.Files.{Files}
use Rattle.psy_kernel.specs.Progress.{Progress}
use Rattle.psy_kernel.specs.Runs.{ended}
use Rattle.psy_run.specs.declared.refusal.Stop.{Stop}
use Rattle.psy_run.specs.declared.served.Served.{Served}
use Rattle.psy_run.specs.declared.served.Served.TheVariants as served
use Rattle.psy_run.specs.Answer.{compiling, listing, running, scripting, supplying}
use Rattle.psy_run.specs.Courses.{Course, in_row, pure, ◌>>=◌}
use Rattle.psy_run.specs.Outcome.{CanServe, HasTold, Halts, halts_refused, halts_unread, halts_memory}
use Rattle.psy_run.specs.Services.{Service, Ran, Saved, Traced, meaning_of, saved_run, service_of, state_text, text_of, trace_by, traced_run}
use Rattle.psy_run.specs.Steps.{fitting, leaving, pacing}
use Rattle.psy_run.proofs.Courses.{halts_apart, halts_first, halts_later}

-- ---- a run, and the same with other steps behind it

-- Courses that begin with the same step: where the one stops, the other does, if that holds behind the step.
halts_alike : {X Y : Type 0} (c : Course X) (f g : X → Course Y) (failed : List ℕ) (before after : ℕ) (stop : Stop) → ((x : X) → Halts (f x) failed before after stop → Halts (g x) failed before after stop)
    → Halts (in_row c f) failed before after stop → Halts (in_row c g) failed before after stop
halts_alike c f g failed before after stop behind halts = elim (halts_apart c f failed before after stop halts) [
  | inl first ↦ halts_first c g failed before after stop first
  | inr (x, gives, later) ↦ halts_later c g failed before after x stop gives (behind x later)
]

-- What gives something stops for want of memory alone.
halts_pure : {X Y : Type 0} (x : X) (c : Course Y) (failed : List ℕ) (before after : ℕ) (stop : Stop) → Halts (pure x) failed before after stop → Halts c failed before after stop
halts_pure x c failed before after _ (halts_refused refusal never) = absurd never
halts_pure x c failed before after _ (halts_unread file never rose) = absurd never
halts_pure x c failed before after _ halts_memory = halts_memory

-- ---- the kernel

-- A kernel that ran, with the trace of its run, can be served.
pub can_tell : (kernel now : Progress) (text : List ℕ) → CanServe (served.Ran kernel) → now ≡ ended kernel → text ≡ text_of (traced_run kernel) → HasTold traced_run now text
can_tell kernel now text (is, plan, are, script) over told =
    let has : HasTold traced_run (ended kernel) text = record { over = ap ended is; planned = plan; its_inputs = are; its_script = script; told = told } in
    subst (λ p. HasTold traced_run p text) (sym over) has

-- So can one with the state that it leaves.
pub can_save : (kernel now : Progress) (text : List ℕ) → CanServe (served.Ran kernel) → now ≡ ended kernel → text ≡ text_of (saved_run kernel) → HasTold saved_run now text
can_save kernel now text (is, plan, are, script) over told =
    let has : HasTold saved_run (ended kernel) text = record { over = ap ended is; planned = plan; its_inputs = are; its_script = script; told = told } in
    subst (λ p. HasTold saved_run p text) (sym over) has

-- The trace of it is that of the kernel as it was.
pub told_now : (kernel now : Progress) → now ≡ ended kernel → traced_run now ≡ traced_run kernel
told_now kernel now over = ap traced_run over

-- And its state
pub saved_now : (kernel now : Progress) → now ≡ ended kernel → saved_run now ≡ saved_run kernel
saved_now kernel now over = ap saved_run over

-- ---- a run and one step more, step by step

-- A service of a run, as another of the same run
module _ (by : Service → Service) (more : Service → Course (Unit {0})) (files : Option Files) (name : List ℕ) (until : ℕ) (inputs script : Option (List ℕ)) where
  -- The steps of a run, then one more, which may look at what is run
  abbrev pub and_more : Course Service
  and_more = do
    unit ← compiling files name
    supply ← supplying unit until
    lists ← listing files unit inputs
    said ← scripting files unit script
    _ ← pacing unit until
    _ ← more (Ran unit supply.nexts supply.sizes until lists said)
    pure (by (Ran unit supply.nexts supply.sizes until lists said))

  -- It stops where the run does,
  pub more_unready : (failed : List ℕ) (before after : ℕ) (stop : Stop) → Halts (running files name until inputs script) failed before after stop → Halts and_more failed before after stop
  more_unready failed before after stop =
      halts_alike _ _ _ failed before after stop (λ unit. halts_alike _ _ _ failed before after stop (λ supply. halts_alike _ _ _ failed before after stop (λ lists.
      halts_alike _ _ _ failed before after stop (λ said. halts_alike _ _ _ failed before after stop (λ paced. halts_pure _ _ failed before after stop)))))

  module _ (ran : Service) (gives : (running files name until inputs script).gives ran) where
    -- or at that step,
    pub more_unfit : (failed : List ℕ) (before after : ℕ) (stop : Stop) → Halts (more ran) failed before after stop → Halts and_more failed before after stop
    unfolding in_row
    more_unfit failed before after stop halts =
        let (unit, made, (supply, supplied, (lists, listed, (said, scripted, (paced, few, is))))) = gives in
        let fit = subst (λ done. Halts (more done) failed before after stop) is halts in
        halts_later _ _ failed before after unit stop made (halts_later _ _ failed before after supply stop supplied (halts_later _ _ failed before after lists stop listed
        (halts_later _ _ failed before after said stop scripted (halts_later _ _ failed before after paced stop few (halts_first _ _ failed before after stop fit)))))

    -- or it gives the other service.
    pub more_gives : (more ran).gives tt → and_more.gives (by ran)
    unfolding in_row
    more_gives fits =
        let (unit, made, (supply, supplied, (lists, listed, (said, scripted, (paced, few, is))))) = gives in
        (unit, made, (supply, supplied, (lists, listed, (said, scripted, (paced, few, (tt, subst (λ done. (more done).gives tt) is fits, ap by is))))))

    -- So does the last of its steps.
    module _ (result : Result Served Stop) where
      pub more_told : IfOk result (λ done. service_of done ≡ by ran) → OnOk result ((more ran).gives tt) → IfOk result (λ done. and_more.gives (service_of done))
      more_told = by_result result
        where
          by_result : (r : Result Served Stop) → IfOk r (λ done. service_of done ≡ by ran) → OnOk r ((more ran).gives tt) → IfOk r (λ done. and_more.gives (service_of done))
          by_result (Ok done) is fits = subst and_more.gives (sym is) (more_gives fits)
          by_result (Err stop) is fits = tt

      pub more_untold : (failed : List ℕ) (before after : ℕ) → IfErr result (Halts (more ran) failed before after) → IfErr result (Halts and_more failed before after)
      more_untold failed before after = by_result result
        where
          by_result : (r : Result Served Stop) → IfErr r (Halts (more ran) failed before after) → IfErr r (Halts and_more failed before after)
          by_result (Ok done) halts = tt
          by_result (Err stop) halts = more_unfit failed before after stop halts

-- ---- traces and states

-- What a run comes to as its trace
abbrev pub as_trace : Service → Service
as_trace (Ran unit nexts sizes until inputs script) = Traced unit nexts sizes until inputs script
as_trace service = service

-- What is asked of the trace
abbrev pub fits_trace : Service → Course (Unit {0})
fits_trace (Ran unit nexts sizes until inputs script) = fitting (trace_by unit nexts sizes until inputs script)
fits_trace service = pure tt

-- What it comes to, as the state that it leaves
abbrev pub as_state : Service → Service
as_state (Ran unit nexts sizes until inputs script) = Saved unit nexts sizes until inputs script
as_state service = service

-- What is asked of the state
abbrev pub leaves_state : Service → Course (Unit {0})
leaves_state (Ran unit nexts sizes until inputs script) = leaving (meaning_of unit nexts inputs script) until (state_text unit nexts sizes until inputs script)
leaves_state service = pure tt
