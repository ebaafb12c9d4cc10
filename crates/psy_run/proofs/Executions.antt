-- A run of the code of an image, step by step: where it stops, what it gives, and what can be served then; and the same of a program's image.
use Rattle.std.proofs.Common.{◌≡◌, ◌∙◌, sym, ap, subst, ℕ, List, Option, ℤ}
use Rattle.psy_base.specs.declared.sizes.Sizes.{Sizes}
use Rattle.psy_base.specs.declared.ways.Ways.{Ways as WayLists}
use Rattle.psy_code.specs.declared.code.Code.{Code}
use Rattle.psy_dates.specs.Plans.{IsPlan}
use Rattle.psy_door.specs.Files.{Files}
use Rattle.psy_history.specs.Compiled.{AreInputs}
use Rattle.psy_history.specs.declared.told.Script.{Script as Said}
use Rattle.psy_history.specs.Scripts.{IsScript}
use Rattle.psy_image.specs.declared.image.Image.{Image as CodeImage}
use Rattle.psy_kernel.specs.Progress.{Progress, booted}
use Rattle.psy_plan.specs.Supplies.{Supply}
use Rattle.psy_tree.specs.declared.unit.Unit.{Unit as Whole}
use Rattle.psy_run.specs.declared.refusal.File.TheVariants.{Image}
use Rattle.psy_run.specs.declared.refusal.Stop.{Stop}
use Rattle.psy_run.specs.declared.served.Served.TheVariants as served
use Rattle.psy_run.specs.Answer.{executing, listing, scripting, supplying_by}
use Rattle.psy_run.specs.Outcome.{CanServe, Halts}
use Rattle.psy_run.specs.Services.{Executed, Service, service_of}
use Rattle.psy_run.specs.Steps.{decoding, pacing, reading, verifying}
use Rattle.psy_run.proofs.Courses.{gives_then, halts_first, halts_later}

module _ (files : Option Files) (name : List ℕ) (until : ℕ) (inputs script : Option (List ℕ)) (failed : List ℕ) (before after : ℕ) (stop : Stop) where
  -- what it comes to
  abbrev HaltsRun : Type 0
  HaltsRun = Halts (executing files name until inputs script) failed before after stop

  module _ (bytes : List ℕ) (read : (reading files Image name).gives bytes) where
    -- it stops at the bytes
    pub exec_unspelled : Halts (decoding bytes) failed before after stop → HaltsRun
    exec_unspelled halts = halts_later _ _ failed before after bytes stop read (halts_first _ _ failed before after stop halts)

    module _ (it : CodeImage) (spelled : (decoding bytes).gives it) where
      -- at the code
      pub exec_unverified : Halts (verifying it) failed before after stop → HaltsRun
      exec_unverified halts = halts_later _ _ failed before after bytes stop read (halts_later _ _ failed before after it stop spelled (halts_first _ _ failed before after stop halts))

      module _ (ways : WayLists) (checked : (verifying it).gives ways) where
        -- at its supply
        pub exec_unsupplied : Halts (supplying_by it.unit ways until) failed before after stop → HaltsRun
        exec_unsupplied halts =
            halts_later _ _ failed before after bytes stop read (halts_later _ _ failed before after it stop spelled (halts_later _ _ failed before after ways stop checked (halts_first _ _ failed before after stop halts)))

        module _ (supply : Supply) (supplied : (supplying_by it.unit ways until).gives supply) where
          -- at the inputs
          pub exec_unlisted : Halts (listing files it.unit inputs) failed before after stop → HaltsRun
          exec_unlisted halts =
              halts_later _ _ failed before after bytes stop read (halts_later _ _ failed before after it stop spelled (halts_later _ _ failed before after ways stop checked
              (halts_later _ _ failed before after supply stop supplied (halts_first _ _ failed before after stop halts))))

          module _ (lists : List (List ℤ)) (listed : (listing files it.unit inputs).gives lists) where
            -- at the script
            pub exec_unscripted : Halts (scripting files it.unit script) failed before after stop → HaltsRun
            exec_unscripted halts =
                halts_later _ _ failed before after bytes stop read (halts_later _ _ failed before after it stop spelled (halts_later _ _ failed before after ways stop checked
                (halts_later _ _ failed before after supply stop supplied (halts_later _ _ failed before after lists stop listed (halts_first _ _ failed before after stop halts)))))

            -- or at its cycles
            pub exec_unpaced : (said : Said) → (scripting files it.unit script).gives said → Halts (pacing it.unit until) failed before after stop → HaltsRun
            exec_unpaced said scripted halts =
                halts_later _ _ failed before after bytes stop read (halts_later _ _ failed before after it stop spelled (halts_later _ _ failed before after ways stop checked
                (halts_later _ _ failed before after supply stop supplied (halts_later _ _ failed before after lists stop listed (halts_later _ _ failed before after said stop scripted (halts_first _ _ failed before after stop halts))))))

-- Or it gives what it comes to.
pub exec_gives : (files : Option Files) (name : List ℕ) (until : ℕ) (inputs script : Option (List ℕ)) (bytes : List ℕ) → (reading files Image name).gives bytes → (it : CodeImage) → (decoding bytes).gives it
    → (ways : WayLists) → (verifying it).gives ways → (supply : Supply) → (supplying_by it.unit ways until).gives supply → (lists : List (List ℤ)) → (listing files it.unit inputs).gives lists
    → (said : Said) → (scripting files it.unit script).gives said → (pacing it.unit until).gives tt → (done : Service) → done ≡ Executed it.unit it.code supply.nexts supply.sizes until lists said
    → (executing files name until inputs script).gives done
exec_gives files name until inputs script bytes read it spelled ways checked supply supplied lists listed said scripted paced done same =
    gives_then _ _ bytes done read (gives_then _ _ it done spelled (gives_then _ _ ways done checked (gives_then _ _ supply done supplied
    (gives_then _ _ lists done listed (gives_then _ _ said done scripted (gives_then _ _ tt done paced same))))))

-- ---- kernels that were just booted

-- One with inputs and a script of its image can be served
pub can_execute : (kernel : Progress) (unit : Whole) (lists : List (List ℤ)) (script : Said) → kernel ≡ booted kernel.plan lists script → IsPlan kernel.plan → kernel.plan.unit ≡ unit → AreInputs unit lists → IsScript unit script → CanServe (served.Executed kernel)
can_execute kernel unit lists script is plan its_unit are_inputs is_script =
    let its_inputs : kernel.inputs ≡ lists = ap (λ p. p.inputs) is in
    let its_script : kernel.script ≡ script = ap (λ p. p.script) is in (
      is ∙ sym (λ i. booted kernel.plan (its_inputs i) (its_script i)),
      plan,
      subst (λ u. AreInputs u kernel.inputs) (sym its_unit) (subst (AreInputs unit) (sym its_inputs) are_inputs),
      subst (λ u. IsScript u kernel.script) (sym its_unit) (subst (IsScript unit) (sym its_script) is_script),
    )

-- What is run is the image with them
pub executed_is : (kernel : Progress) (unit : Whole) (code : Code) (nexts : List (List (List ℕ))) (sizes : Sizes) (until : ℕ) (lists : List (List ℤ)) (script : Said) → kernel ≡ booted kernel.plan lists script
    → kernel.plan.unit ≡ unit → kernel.plan.code ≡ code → kernel.plan.nexts ≡ nexts → kernel.plan.sizes ≡ sizes → kernel.plan.until ≡ until → service_of (served.Executed kernel) ≡ Executed unit code nexts sizes until lists script
executed_is kernel unit code nexts sizes until lists script is its_unit its_code its_nexts its_sizes its_until =
    let its_inputs : kernel.inputs ≡ lists = ap (λ p. p.inputs) is in
    let its_script : kernel.script ≡ script = ap (λ p. p.script) is in
    λ i. Executed (its_unit i) (its_code i) (its_nexts i) (its_sizes i) (its_until i) (its_inputs i) (its_script i)
