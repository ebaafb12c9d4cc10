-- What `exec` does behind the verification of a built image is what `run` does behind the translation of its program.
use Rattle.std.proofs.Common.{◌≡◌, ◌∙◌, inl, inr, refl, sym, ap, subst, ℕ, List, Option, None, Some, ℤ}
use Rattle.psy_base.specs.declared.ways.Ways.{Ways}
use Rattle.psy_code.specs.declared.code.Code.{Code}
use Rattle.psy_door.specs.Files.{Files}
use Rattle.psy_history.proofs.lemmas.NoInputs.{are_no_inputs}
use Rattle.psy_history.specs.Compiled.{AreInputs, IsCompiled}
use Rattle.psy_history.specs.declared.told.Script.{Script as Said}
use Rattle.psy_history.specs.Scripts.{order_of, stalls_of}
use Rattle.psy_image.specs.Answers.{emptied}
use Rattle.psy_kernel.specs.Texts.{run_text}
use Rattle.psy_meaning.specs.Alike.{ActsAlike}
use Rattle.psy_meaning.specs.Flow.{AreAllNexts}
use Rattle.psy_meaning.specs.Units.{IsOfText}
use Rattle.psy_plan.specs.Supplies as supplies
use Rattle.psy_plan.specs.Supplies.{Supply}
use Rattle.psy_run.specs.Answer.{listing, scripting, supplying, supplying_by}
use Rattle.psy_run.specs.Courses.{Course, ◌>>=◌, in_row, pure}
use Rattle.psy_run.specs.declared.refusal.Refusal.{Refusal}
use Rattle.psy_run.specs.declared.refusal.Refusal.TheVariants.{Line, Lines, Unplanned}
use Rattle.psy_run.specs.Services.{Executed, Ran, Service, meaning_by, text_of}
use Rattle.psy_run.specs.Steps.{IsUnlisted, IsUnscripted, pacing}
use Rattle.psy_script.specs.Faults.{IsFirst, Judge}
use Rattle.psy_script.specs.Inputs.{AreListsOf}
use Rattle.psy_tree.specs.declared.unit.Unit.{Unit as Whole}
use Rattle.psy_same.proofs.Supplies.{AreStated, supplied_alike, unsupplied_alike}
use Rattle.psy_same.proofs.Tellings.{inputs_alike, lists_alike, orders_alike, script_alike, scripts_alike}
use Rattle.psy_same.proofs.Texts.{ActAlike, text_alike}

-- What `exec` does behind the verification
abbrev pub exec_tail : Files → Whole → Code → Ways → ℕ → Option (List ℕ) → Option (List ℕ) → Course Service
exec_tail files unit code ways until inputs script = do
  supply ← supplying_by unit ways until
  lists ← listing (Some files) unit inputs
  said ← scripting (Some files) unit script
  _ ← pacing unit until
  pure (Executed unit code supply.nexts supply.sizes until lists said)

-- What `run` does behind the translation
abbrev pub run_tail : Files → Whole → ℕ → Option (List ℕ) → Option (List ℕ) → Course Service
run_tail files unit until inputs script = do
  supply ← supplying unit until
  lists ← listing (Some files) unit inputs
  said ← scripting (Some files) unit script
  _ ← pacing unit until
  pure (Ran unit supply.nexts supply.sizes until lists said)

module _ (files : Files) (unit : Whole) where
  -- ---- inputs

  listed : (inputs : Option (List ℕ)) (lists : List (List ℤ)) → (listing (Some files) (emptied unit) inputs).gives lists
      → (listing (Some files) unit inputs).gives lists
  unfolding in_row
  listed None lists is = is
  listed (Some name) lists (bytes, read, are) = (bytes, read, lists_alike unit bytes lists are)

  not_listed : (bytes : List ℕ) (refusal : Refusal) → IsUnlisted (emptied unit) bytes refusal → IsUnlisted unit bytes refusal
  not_listed bytes (Line file kind line) (own, first) = (own, subst (λ (judge : Judge). IsFirst judge bytes kind line) (inputs_alike unit) first)
  not_listed bytes Lines many = many
  not_listed bytes _ never = absurd never

  unlisted : (inputs : Option (List ℕ)) (refusal : Refusal) → (listing (Some files) (emptied unit) inputs).stops refusal
      → (listing (Some files) unit inputs).stops refusal
  unfolding in_row
  unlisted None refusal never = never
  unlisted (Some name) refusal (inl long) = inl long
  unlisted (Some name) refusal (inr (bytes, read, bad)) = inr (bytes, read, not_listed bytes refusal bad)

  pub are_inputs : ((text : List ℕ) (lists : List (List ℤ)) → AreListsOf unit text lists → AreInputs unit lists) → (inputs : Option (List ℕ))
      (lists : List (List ℤ)) → (listing (Some files) unit inputs).gives lists → AreInputs unit lists
  unfolding in_row
  are_inputs law None lists is = subst (AreInputs unit) (sym is) (are_no_inputs unit)
  are_inputs law (Some name) lists (bytes, read, are) = law bytes lists are

  -- ---- the script

  scripted : (script : Option (List ℕ)) (said : Said) → (scripting (Some files) (emptied unit) script).gives said
      → (scripting (Some files) unit script).gives said
  unfolding in_row
  scripted None said is = is
  scripted (Some name) said (bytes, read, is) = (bytes, read, scripts_alike unit bytes said is)

  not_scripted : (bytes : List ℕ) (refusal : Refusal) → IsUnscripted (emptied unit) bytes refusal → IsUnscripted unit bytes refusal
  not_scripted bytes (Line file kind line) (own, first) = (own, subst (λ (judge : Judge). IsFirst judge bytes kind line) (script_alike unit) first)
  not_scripted bytes Lines many = many
  not_scripted bytes _ never = absurd never

  unscripted : (script : Option (List ℕ)) (refusal : Refusal) → (scripting (Some files) (emptied unit) script).stops refusal
      → (scripting (Some files) unit script).stops refusal
  unfolding in_row
  unscripted None refusal never = never
  unscripted (Some name) refusal (inl long) = inl long
  unscripted (Some name) refusal (inr (bytes, read, bad)) = inr (bytes, read, not_scripted bytes refusal bad)

  -- ---- in a row

  module _ (ways : Ways) (until : ℕ) (stated : AreStated unit ways) where
    unsupplied : (refusal : Refusal) → (supplying_by (emptied unit) ways until).stops refusal → (supplying unit until).stops refusal
    unsupplied (Unplanned cause) stops = unsupplied_alike unit ways until stated cause stops
    unsupplied _ never = never

    pub tail_stops : (code : Code) (inputs script : Option (List ℕ)) (refusal : Refusal)
        → (exec_tail files (emptied unit) code ways until inputs script).stops refusal → (run_tail files unit until inputs script).stops refusal
    unfolding in_row
    tail_stops code inputs script refusal (inl stops) = inl (unsupplied refusal stops)
    tail_stops code inputs script refusal (inr (supply, gives, inl bad)) =
        inr (supply, supplied_alike unit ways until stated supply gives, inl (unlisted inputs refusal bad))
    tail_stops code inputs script refusal (inr (supply, gives, inr (lists, are, inl bad))) =
        inr (supply, supplied_alike unit ways until stated supply gives, inr (lists, listed inputs lists are, inl (unscripted script refusal bad)))
    tail_stops code inputs script refusal (inr (supply, gives, inr (lists, are, inr (said, is, inl many)))) =
        inr (supply, supplied_alike unit ways until stated supply gives, inr (lists, listed inputs lists are, inr (said, scripted script said is, inl many)))
    tail_stops code inputs script refusal (inr (supply, gives, inr (lists, are, inr (said, is, inr (paced, few, never))))) = absurd never

    module _ (acts : ActAlike) (text : IsOfText unit) (code : Code) (alike : ActsAlike unit code) where
      module _ (supplied : (supply : Supply) → (supplies.supplying unit until).gives supply → AreAllNexts unit supply.nexts)
          (lawful : (text : List ℕ) (lists : List (List ℤ)) → AreListsOf unit text lists → AreInputs unit lists) where
        -- What `exec` writes, `run` writes.
        pub tail_gives : (inputs script : Option (List ℕ)) (done : Service)
            → (exec_tail files (emptied unit) code ways until inputs script).gives done
            → (other : Service) × (run_tail files unit until inputs script).gives other × (text_of done ≡ text_of other)
        unfolding in_row
        tail_gives inputs script done (supply, gives, (lists, are, (said, is, (paced, few, same)))) =
            let given = supplied_alike unit ways until stated supply gives in
            let its = listed inputs lists are in
            let compiled : IsCompiled unit code supply.nexts = record { text = text; alike = alike; followed = supplied supply given } in
            let figures = acts unit code supply.nexts (stalls_of said) lists compiled (are_inputs lawful inputs lists its) in (
              Ran unit supply.nexts supply.sizes until lists said,
              (supply, given, (lists, its, (said, scripted script said is, (paced, few, refl)))),
              ap text_of same
                  ∙ (λ i. run_text (meaning_by (emptied unit) code supply.nexts lists said) (orders_alike unit i said) supply.sizes until)
                  ∙ text_alike unit code supply.nexts (stalls_of said) lists figures (order_of unit said) supply.sizes until,
            )
