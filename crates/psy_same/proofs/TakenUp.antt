-- What `resume` answers behind what `save` left is the rest of what the whole `run` answers.
use Rattle.std.proofs.Common.{◌≡◌, ◌∙◌, refl, sym, ap, subst, ℕ, ◌+◌, ◌*◌, ◌^◌, ◌<◌, ◌≤◌, List, ◌++◌, length, Option, Some, ℤ, arith}
use Rattle.psy_base.specs.declared.limits.TheConstants.{FILE_BYTES, RUN, UNTIL}
use Rattle.psy_dates.specs.declared.opening.Opening.{Opening as State}
use Rattle.psy_dates.specs.declared.plan.Plan.{Plan}
use Rattle.psy_dates.specs.Plans.{IsPlan}
use Rattle.psy_door.specs.Files.{Files, bytes_under}
use Rattle.psy_history.specs.Compiled.{AreInputs, IsCompiled}
use Rattle.psy_history.specs.declared.told.Script.{Script as Said}
use Rattle.psy_history.specs.Resuming.{IsQuiet}
use Rattle.psy_history.specs.Scripts.{IsScript, order_of}
use Rattle.psy_kernel.specs.Texts.{log_of, run_text}
use Rattle.psy_meaning.specs.BufferSizes.{AreSizes}
use Rattle.psy_meaning.specs.KnownWays.{OfText}
use Rattle.psy_meaning.specs.Units.{IsOfText}
use Rattle.psy_plan.specs.Courses.{IsDecided}
use Rattle.psy_plan.specs.Programs.{IsProgram, translating}
use Rattle.psy_plan.specs.Supplies.{Supply}
use Rattle.psy_rest.specs.Joined as joined
use Rattle.psy_run.specs.Answer.{Answers, answering, compiling, listing, resuming, running, saving, scripting, served, serving, supplying}
use Rattle.psy_run.specs.Asked.{Asks, Resume, Run, Save}
use Rattle.psy_run.specs.Courses.{Course, ◌>>=◌, in_row, pure}
use Rattle.psy_run.specs.Services.{Ran, Resumed, Saved, Service, compiled_plan, meaning_of, state_at, state_text, text_of}
use Rattle.psy_run.specs.Steps.{IsStateOf, leaving, pacing}
use Rattle.psy_script.specs.Inputs.{AreListsOf}
use Rattle.psy_script.specs.Script.{IsScriptOf}
use Rattle.psy_snap.specs.Forms.{form_of}
use Rattle.psy_tree.specs.declared.unit.Unit.{Unit as Whole}
use Rattle.psy_same.proofs.Asking.{one_command, saved_near}
use Rattle.psy_same.proofs.LeftStates.{StatesHold, left_state}
use Rattle.psy_same.proofs.Plans.{PlansHold, is_compiled, is_plan, its_supply, same_nexts, same_sizes}
use Rattle.psy_same.proofs.Stated.{is_of_text, is_script, one_lists, one_script, one_unit}
use Rattle.psy_same.proofs.Statuses.{was_given}
use Rattle.psy_same.proofs.Tails.{are_inputs}

-- What the laws say of programs, of their runs and of the states that runs leave
pub record LawsHold : Type 0 where
  pub of_text : (bytes : List ℕ) (unit : Whole) → length bytes ≤ FILE_BYTES → IsProgram bytes unit → IsOfText unit
  pub program : (bytes : List ℕ) → IsDecided (translating bytes)
  pub inputs : (unit : Whole) (text : List ℕ) (lists : List (List ℤ)) → AreListsOf unit text lists → AreInputs unit lists
  pub script : (unit : Whole) (text : List ℕ) (said : Said) → IsScriptOf unit text said → IsScript unit said
  pub plans : PlansHold
  pub states : StatesHold
  pub whole : (plan : Plan) (date : ℕ) (inputs : List (List ℤ)) (script : Said) → IsPlan plan → IsCompiled plan.unit plan.code plan.nexts
      → AreSizes plan.unit (OfText plan.unit) plan.nexts plan.sizes → AreInputs plan.unit inputs → IsScript plan.unit script
      → date ≤ plan.until → date ≤ UNTIL → date * plan.unit.quantum < 2 ^ 50 → IsQuiet (joined.meaning_of plan inputs script) date
      → run_text (joined.meaning_of plan inputs script) (order_of plan.unit script) plan.sizes plan.until
      ≡ log_of (joined.meaning_of plan inputs script) (date + 1)
      ++ run_text (joined.meaning_behind plan (joined.state_at plan inputs script date) inputs script) (order_of plan.unit script) plan.sizes plan.until

-- What these words answer is the rest of a run's text behind the lines of the dates up to this one.
abbrev GoesOn : List (List ℕ) → Files → ℕ → Service → Type 0
GoesOn resumed files date (Ran unit nexts sizes until lists said) = (rest : List ℕ) × Answers resumed (Some files) 0 rest
    × (run_text (meaning_of unit nexts lists said) (order_of unit said) sizes until ≡ log_of (meaning_of unit nexts lists said) (date + 1) ++ rest)
GoesOn resumed files date _ = Unit {0}

-- What `save` does behind the translation
abbrev save_tail : Files → Whole → ℕ → Option (List ℕ) → Option (List ℕ) → Course Service
save_tail files unit date inputs script = do
  supply ← supplying unit date
  lists ← listing (Some files) unit inputs
  said ← scripting (Some files) unit script
  _ ← pacing unit date
  _ ← leaving (meaning_of unit supply.nexts lists said) date (state_text unit supply.nexts supply.sizes date lists said)
  pure (Saved unit supply.nexts supply.sizes date lists said)

module _ (laws : LawsHold) (files : Files) (program state : List ℕ) (date until : ℕ) (inputs script : Option (List ℕ)) (late : date ≤ until)
    (saved resumed : List (List ℕ)) (for_save : Asks saved (Save program date inputs script))
    (for_resume : Asks resumed (Resume program state until inputs script)) where
  -- ---- a whole run, and what `save` left

  module _ (unit : Whole) (compiled : (compiling (Some files) program).gives unit) (supply : Supply) (given : (supplying unit until).gives supply)
      (lists : List (List ℤ)) (listed : (listing (Some files) unit inputs).gives lists) (said : Said)
      (scripted : (scripting (Some files) unit script).gives said) (paced : until * unit.quantum ≤ RUN) where
    text : IsOfText unit
    text = is_of_text files laws.of_text program unit compiled

    are_its_inputs : AreInputs unit lists
    are_its_inputs = are_inputs files unit (laws.inputs unit) inputs lists listed

    is_its_script : IsScript unit said
    is_its_script = is_script files unit (laws.script unit) script said scripted

    -- The run
    abbrev its_run : Service
    its_run = Ran unit supply.nexts supply.sizes until lists said

    -- What it leaves at the date
    abbrev its_state : State
    its_state = state_at unit supply.nexts supply.sizes date lists said

    module _ (other : Supply) (also : (supplying unit date).gives other) (few : date * unit.quantum ≤ RUN)
        (quiet : IsQuiet (meaning_of unit supply.nexts lists said) date) (short : length (bytes_under files state) ≤ FILE_BYTES)
        (is : state_text unit supply.nexts supply.sizes date lists said ≡ bytes_under files state) where
      near : date ≤ UNTIL
      near = saved_near saved program date inputs script for_save

      cycles : date * unit.quantum < 2 ^ 50
      cycles = omega (arith, few)

      earlier : IsPlan (compiled_plan unit supply.nexts supply.sizes date)
      earlier =
          let nexts = same_nexts laws.plans unit text until supply given date other also in
          let sizes = same_sizes laws.plans unit text until supply given date other also in
          subst IsPlan (λ i. compiled_plan unit (nexts i) (sizes i) date) (is_plan laws.plans unit text date other also)

      restored : IsStateOf (form_of (compiled_plan unit supply.nexts supply.sizes until) supply.graphs) (bytes_under files state) its_state
      restored =
          let its = its_supply laws.plans unit text until supply given in
          subst (λ bytes. IsStateOf (form_of (compiled_plan unit supply.nexts supply.sizes until) supply.graphs) bytes its_state) is
          (left_state laws.states unit supply.nexts supply.sizes date lists said (is_compiled laws.plans unit text until supply given) are_its_inputs
          supply.graphs until earlier is_its_script ((laws.plans.graphs unit supply.nexts supply.graphs its.followed).0 its.drawn) quiet late near cycles)

      resumes : (resuming (Some files) program state until inputs script).gives (Resumed unit supply.nexts supply.sizes until its_state lists said)
      unfolding in_row
      resumes = (
        unit,
        compiled,
        (
          supply,
          given,
          (bytes_under files state, (short, refl), (its_state, restored, (lists, listed, (said, scripted, (tt, paced, refl))))),
        ),
      )

      goes_on : GoesOn resumed files date its_run
      unfolding in_row
      goes_on =
          let done : Service = Resumed unit supply.nexts supply.sizes until its_state lists said in
          let its = its_supply laws.plans unit text until supply given in (
            text_of done,
            served done (Resume program state until inputs script, for_resume, resumes),
            laws.whole (compiled_plan unit supply.nexts supply.sizes until) date lists said
                (is_plan laws.plans unit text until supply given)
                (is_compiled laws.plans unit text until supply given)
                its.sized are_its_inputs is_its_script late near cycles quiet,
          )

    -- ---- in a row

    tail_goes_on : (done : Service) → (save_tail files unit date inputs script).gives done → bytes_under files state ≡ text_of done
        → GoesOn resumed files date its_run
    unfolding in_row
    tail_goes_on done (other, also, (stated, are, (told, its, (in_pace, few, (left, (rested, quiet, short), same))))) is =
        let nexts = same_nexts laws.plans unit text until supply given date other also in
        let sizes = same_sizes laws.plans unit text until supply given date other also in
        let all = one_lists files unit inputs stated lists are listed in
        let one = one_script files unit script told said its scripted in
        let bytes : bytes_under files state ≡ state_text unit other.nexts other.sizes date stated told = is ∙ ap text_of same in
        goes_on other also few
        (subst (λ s. IsQuiet s date) (λ i. meaning_of unit (nexts i) (all i) (one i)) quiet)
        (subst (λ text. length text ≤ FILE_BYTES) (sym bytes) short)
        (sym (bytes ∙ (λ i. state_text unit (nexts i) (sizes i) date (all i) (one i))))

    saving_goes_on : (done : Service) → (saving (Some files) program date inputs script).gives done → bytes_under files state ≡ text_of done
        → GoesOn resumed files date its_run
    unfolding in_row
    saving_goes_on done (its, made, tail) is =
        let same : its ≡ unit = one_unit files laws.program program its unit made compiled in
        tail_goes_on done (subst (λ (u : Whole). (save_tail files u date inputs script).gives done) same tail) is

    saved_goes_on : Answers saved (Some files) 0 (bytes_under files state) → GoesOn resumed files date its_run
    unfolding in_row
    saved_goes_on answers =
        let (done, (command, asks, gives), is) = was_given saved (Some files) 0 (bytes_under files state) answers refl in
        let same = one_command saved command (Save program date inputs script) asks for_save in
        saving_goes_on done (subst (λ c. (serving (Some files) c).gives done) same gives) is

  running_goes_on : (done : Service) → (running (Some files) program until inputs script).gives done
      → Answers saved (Some files) 0 (bytes_under files state) → GoesOn resumed files date done
  unfolding in_row
  running_goes_on done (unit, compiled, (supply, given, (lists, listed, (said, scripted, (in_pace, paced, same))))) answers =
      subst (GoesOn resumed files date) (sym same) (saved_goes_on unit compiled supply given lists listed said scripted paced answers)

  -- What is left by `save` is taken up by `resume`.
  pub run_goes_on : (ran : List (List ℕ)) → Asks ran (Run program until inputs script) → (done : Service) → (answering ran (Some files)).gives done
      → Answers saved (Some files) 0 (bytes_under files state) → GoesOn resumed files date done
  unfolding in_row
  run_goes_on ran for_run done (command, asks, gives) answers =
      let same = one_command ran command (Run program until inputs script) asks for_run in
      running_goes_on done (subst (λ c. (serving (Some files) c).gives done) same gives) answers
