-- The steps on what a run is told, and the steps behind them: where they stop, what they give, and what can be served then.
use Rattle.std.proofs.Common.{◌≡◌, ◌∙◌, refl, sym, ap, subst, ℕ, ◌≤◌, List, Option, ℤ}
use Rattle.psy_base.specs.declared.sizes.Sizes.{Sizes}
use Rattle.psy_run.proofs.lemmas.Growth.{rose_before}
use Rattle.psy_door.specs.Files.{Files}
use Rattle.psy_history.specs.Compiled.{AreInputs}
use Rattle.psy_history.specs.declared.told.Script.{Script as Said}
use Rattle.psy_kernel.specs.Progress.{Progress, booted}
use Rattle.psy_history.specs.Scripts.{IsScript}
use Rattle.psy_make.specs.Text.{made_text}
use Rattle.psy_script.specs.declared.fault.LineKind.{LineKind}
use Rattle.psy_script.specs.declared.fault.TextFault.{TextFault}
use Rattle.psy_script.specs.declared.fault.TextFault.TheVariants as text
use Rattle.psy_tree.specs.declared.unit.Unit.{Unit as Whole}
use Rattle.psy_plan.specs.Supplies.{Supply}
use Rattle.psy_run.specs.declared.refusal.File.{File}
use Rattle.psy_run.specs.declared.refusal.Refusal.TheVariants.{Line, Lines}
use Rattle.psy_run.specs.declared.refusal.Stop.{Stop}
use Rattle.psy_run.specs.declared.served.Served.TheVariants as served
use Rattle.psy_run.specs.Answer.{compiling, translating, supplying, listing, scripting, running, trying}
use Rattle.psy_run.specs.Courses.{Course}
use Rattle.psy_run.specs.Outcome.{CanServe, Halts, halts_refused, halts_unread, halts_memory}
use Rattle.psy_run.specs.Planned.{IsPlanned}
use Rattle.psy_run.specs.Refusals.{stop_by}
use Rattle.psy_run.specs.Services.{Service, Ran, Tried, no_inputs, no_script, service_of}
use Rattle.psy_run.specs.Steps.{pacing}
use Rattle.psy_run.proofs.Courses.{gives_then, halts_first, halts_later}

-- ---- texts

-- The text of a file stops a run with its fault
pub halts_by_text : {X : Type 0} (course : Course X) (file : File) (failed : List ℕ) (before after : ℕ) (fault : TextFault)
    → ((kind : LineKind) (line : ℕ) → fault ≡ text.Line kind line → course.stops (Line file kind line)) → (fault ≡ text.Lines → course.stops Lines) → Halts course failed before after (stop_by file fault)
halts_by_text course file failed before after (text.Line kind line) first many = halts_refused (Line file kind line) (first kind line refl)
halts_by_text course file failed before after text.Lines first many = halts_refused Lines (many refl)
halts_by_text course file failed before after text.Memory first many = halts_memory

-- ---- the shelf

-- A stop that is counted from later on is one from earlier on
halts_before : {X : Type 0} (course : Course X) (failed : List ℕ) (before between after : ℕ) (stop : Stop) → before ≤ between → Halts course failed between after stop → Halts course failed before after stop
halts_before course failed before between after _ less (halts_refused refusal stops) = halts_refused refusal stops
halts_before course failed before between after _ less (halts_unread file reads rose) = halts_unread file reads (rose_before before between after less rose)
halts_before course failed before between after _ less halts_memory = halts_memory

-- A stop behind another read, which left the files as they were and the count of faults no less
pub halts_behind : {X : Type 0} {files now : Option Files} {failed : List ℕ} {before between after : ℕ} {stop : Stop} (course : Option Files → Course X) → (before ≤ between) × (now ≡ files)
    → Halts (course now) failed between after stop → Halts (course files) failed before after stop
halts_behind {files = files} {failed = failed} {before = before} {between = between} {after = after} {stop = stop} course left halts =
    halts_before (course files) failed before between after stop left.0 (subst (λ f. Halts (course f) failed between after stop) left.1 halts)

-- What is given behind it
pub gives_behind : {X : Type 0} {files now : Option Files} {before between : ℕ} {x : X} (course : Option Files → Course X) → (before ≤ between) × (now ≡ files) → (course now).gives x → (course files).gives x
gives_behind {x = x} course left gives = subst (λ f. (course f).gives x) left.1 gives

-- ---- a run, step by step

module _ (files : Option Files) (name : List ℕ) (until : ℕ) (inputs script : Option (List ℕ)) (unit : Whole) (supply : Supply) (compiled : (compiling files name).gives unit) (supplied : (supplying unit until).gives supply) where
  -- it stops at the inputs
  pub run_unlisted : (failed : List ℕ) (before after : ℕ) (stop : Stop) → Halts (listing files unit inputs) failed before after stop → Halts (running files name until inputs script) failed before after stop
  run_unlisted failed before after stop halts =
      halts_later _ _ failed before after unit stop compiled (halts_later _ _ failed before after supply stop supplied (halts_first _ _ failed before after stop halts))

  module _ (lists : List (List ℤ)) (listed : (listing files unit inputs).gives lists) where
    -- at the script
    pub run_unscripted : (failed : List ℕ) (before after : ℕ) (stop : Stop) → Halts (scripting files unit script) failed before after stop → Halts (running files name until inputs script) failed before after stop
    run_unscripted failed before after stop halts =
        halts_later _ _ failed before after unit stop compiled (halts_later _ _ failed before after supply stop supplied (halts_later _ _ failed before after lists stop listed (halts_first _ _ failed before after stop halts)))

    module _ (said : Said) (scripted : (scripting files unit script).gives said) where
      -- at its cycles
      pub run_unpaced : (failed : List ℕ) (before after : ℕ) (stop : Stop) → Halts (pacing unit until) failed before after stop → Halts (running files name until inputs script) failed before after stop
      run_unpaced failed before after stop halts =
          halts_later _ _ failed before after unit stop compiled (halts_later _ _ failed before after supply stop supplied (halts_later _ _ failed before after lists stop listed
          (halts_later _ _ failed before after said stop scripted (halts_first _ _ failed before after stop halts))))

      -- or it gives what it comes to
      pub run_gives : (done : Service) → (pacing unit until).gives tt → done ≡ Ran unit supply.nexts supply.sizes until lists said → (running files name until inputs script).gives done
      run_gives done paced same =
          gives_then _ _ unit done compiled (gives_then _ _ supply done supplied (gives_then _ _ lists done listed (gives_then _ _ said done scripted (gives_then _ _ tt done paced same))))

-- ---- a trial, step by step

module _ (seed until : ℕ) (text : List ℕ) (made : text ≡ made_text seed) where
  -- it stops at the text
  pub trial_untranslated : (failed : List ℕ) (before after : ℕ) (stop : Stop) → Halts (translating text) failed before after stop → Halts (trying seed until) failed before after stop
  trial_untranslated failed before after stop halts = halts_first _ _ failed before after stop (subst (λ t. Halts (translating t) failed before after stop) made halts)

  module _ (unit : Whole) (translated : (translating text).gives unit) where
    -- the text is the one that is made from the number
    made_unit : (translating (made_text seed)).gives unit
    made_unit = subst (λ t. (translating t).gives unit) made translated

    -- at its supply
    pub trial_unsupplied : (failed : List ℕ) (before after : ℕ) (stop : Stop) → Halts (supplying unit until) failed before after stop → Halts (trying seed until) failed before after stop
    trial_unsupplied failed before after stop halts = halts_later _ _ failed before after unit stop made_unit (halts_first _ _ failed before after stop halts)

    module _ (supply : Supply) (supplied : (supplying unit until).gives supply) where
      -- at its cycles
      pub trial_unpaced : (failed : List ℕ) (before after : ℕ) (stop : Stop) → Halts (pacing unit until) failed before after stop → Halts (trying seed until) failed before after stop
      trial_unpaced failed before after stop halts =
          halts_later _ _ failed before after unit stop made_unit (halts_later _ _ failed before after supply stop supplied (halts_first _ _ failed before after stop halts))

      -- or it gives what it comes to
      pub trial_gives : (done : Service) → (pacing unit until).gives tt → done ≡ Tried unit supply.nexts supply.sizes until → (trying seed until).gives done
      trial_gives done paced same = gives_then _ _ unit done made_unit (gives_then _ _ supply done supplied (gives_then _ _ tt done paced same))

-- ---- kernels that were just booted

-- One with inputs and a script of its program can be served
pub can_run : (kernel : Progress) (unit : Whole) (lists : List (List ℤ)) (script : Said) → kernel ≡ booted kernel.plan lists script → IsPlanned kernel.plan → kernel.plan.unit ≡ unit → AreInputs unit lists → IsScript unit script → CanServe (served.Ran kernel)
can_run kernel unit lists script is plan its_unit are_inputs is_script =
    let its_inputs : kernel.inputs ≡ lists = ap (λ p. p.inputs) is in
    let its_script : kernel.script ≡ script = ap (λ p. p.script) is in (
      is ∙ sym (λ i. booted kernel.plan (its_inputs i) (its_script i)),
      plan,
      subst (λ u. AreInputs u kernel.inputs) (sym its_unit) (subst (AreInputs unit) (sym its_inputs) are_inputs),
      subst (λ u. IsScript u kernel.script) (sym its_unit) (subst (IsScript unit) (sym its_script) is_script),
    )

-- One without can be tried
pub can_try : (kernel : Progress) (unit : Whole) (lists : List (List ℤ)) (script : Said) → kernel ≡ booted kernel.plan lists script → IsPlanned kernel.plan → kernel.plan.unit ≡ unit → lists ≡ no_inputs unit → script ≡ no_script → CanServe (served.Tried kernel)
can_try kernel unit lists script is plan its_unit none still = (is ∙ (λ i. booted kernel.plan ((none ∙ ap no_inputs (sym its_unit)) i) (still i)), plan)

-- What is run is the program with them
pub ran_is : (kernel : Progress) (unit : Whole) (nexts : List (List (List ℕ))) (sizes : Sizes) (until : ℕ) (lists : List (List ℤ)) (script : Said) → kernel ≡ booted kernel.plan lists script
    → kernel.plan.unit ≡ unit → kernel.plan.nexts ≡ nexts → kernel.plan.sizes ≡ sizes → kernel.plan.until ≡ until → service_of (served.Ran kernel) ≡ Ran unit nexts sizes until lists script
ran_is kernel unit nexts sizes until lists script is its_unit its_nexts its_sizes its_until =
    let its_inputs : kernel.inputs ≡ lists = ap (λ p. p.inputs) is in
    let its_script : kernel.script ≡ script = ap (λ p. p.script) is in
    λ i. Ran (its_unit i) (its_nexts i) (its_sizes i) (its_until i) (its_inputs i) (its_script i)
