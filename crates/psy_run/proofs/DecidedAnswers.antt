-- Words have one answer, where files are told, and no other.
use Rattle.std.proofs.Common.{◌≡◌, ap, refl, ℕ, ◌≤◌, List, length, Option, None, Some, inl, inr}
use Rattle.psy_base.specs.declared.limits.TheConstants.{FILE_BYTES}
use Rattle.psy_door.specs.Files.{Files}
use Rattle.psy_meaning.specs.Units.{IsOfText}
use Rattle.psy_tree.specs.declared.unit.Unit.{Unit as Whole}
use Rattle.psy_make.specs.Text.{made_text}
use Rattle.psy_plan.specs.Programs as programs
use Rattle.psy_plan.specs.Steps as plan
use Rattle.psy_plan.specs.Supplies as supplies
use Rattle.psy_snap.specs.Forms.{form_of}
use Rattle.psy_run.specs.declared.refusal.File.TheVariants as file
use Rattle.psy_run.specs.declared.refusal.Refusal.{Refusal}
use Rattle.psy_run.specs.Answer.{Answers, refused, served, answering, serving, translating, compiling, supplying, listing, scripting, running, checking, drawing, building, executing, judging, tracing, saving, resuming, planning, trying}
use Rattle.psy_run.specs.Asked.{Asks, Command, IsPlain, Run, Check, Graph as Draw, Make, Trial, Build, Exec, Audit, Trace, Save, Resume}
use Rattle.psy_run.specs.Courses.{in_row}
use Rattle.psy_run.specs.Refusals.{status_of, line_of}
use Rattle.psy_run.specs.Services.{Service, Ran, Checked, Drawn, Made, Tried, Built, Executed, Audited, Traced, Saved, Resumed, compiled_plan, meaning_of, no_inputs, no_script, state_text, text_of, trace_by}
use Rattle.psy_run.specs.Steps.{judged_by}
use Rattle.psy_run.proofs.AskingForms.{decided_asking}
use Rattle.psy_run.proofs.Courses.{IsDecided, IsOne, IsSome, decided_planned, decided_pure, decided_then, one_pure, one_then, some_then}
use Rattle.psy_run.proofs.DecidedImages.{ImagesDecide, decided_imaging, one_decoding, one_supplying_by, one_verifying}
use Rattle.psy_run.proofs.DecidedStates.{StatesDecide, one_leaving, one_restoring}
use Rattle.psy_run.proofs.DecidedSteps.{PlansDecide, TextsHold, decided_reading, decided_stating, decided_directing, decided_pacing, decided_fitting}
use Rattle.psy_run.proofs.DecidedTraces.{decided_auditing}

-- A program of a short text is one of a text.
pub translated : TextsHold → (bytes : List ℕ) (unit : Whole) → length bytes ≤ FILE_BYTES → (translating bytes).gives unit → IsOfText unit
translated of_text bytes unit short made = of_text bytes unit short made

-- So is a program of a file.
pub compiled : TextsHold → (files : Option Files) (name : List ℕ) (unit : Whole) → (compiling files name).gives unit → IsOfText unit
unfolding in_row
compiled of_text files name unit (bytes, read, made) = translated of_text bytes unit read.0 made

-- And it is the program of some text that is short enough to be read.
compiled_program : (files : Option Files) (name : List ℕ) (unit : Whole) → (compiling files name).gives unit → (bytes : List ℕ) × (length bytes ≤ FILE_BYTES) × programs.IsProgram bytes unit
unfolding in_row
compiled_program files name unit (bytes, read, made) = (bytes, read.0, made)

module _ (laws : PlansDecide) where
  decided_translating : (bytes : List ℕ) → IsDecided (translating bytes)
  decided_translating bytes = decided_planned (programs.translating bytes) (laws.program bytes)

  decided_supplying : (unit : Whole) (until : ℕ) → IsOfText unit → IsDecided (supplying unit until)
  decided_supplying unit until of = decided_planned (supplies.supplying unit until) (laws.supply unit until of)

  decided_planning : (bytes : List ℕ) (until : ℕ) → length bytes ≤ FILE_BYTES → IsDecided (planning bytes until)
  decided_planning bytes until few = decided_then _ _ (decided_translating bytes) (λ unit made.
      decided_then _ _ (decided_supplying unit until (translated laws.of_text bytes unit few made)) (λ supply supplied.
      decided_pure (Tried unit supply.nexts supply.sizes until)))

  -- The program of a text that is refused is refused in one way, and not planned.
  pub refused-one : (bytes : List ℕ) (until : ℕ) (refusal : Refusal) → length bytes ≤ FILE_BYTES → (planning bytes until).stops refusal
      → ((other : Refusal) → (planning bytes until).stops other → other ≡ refusal) × ((done : Service) → (planning bytes until).gives done → ⊥)
  refused-one bytes until refusal few stops =
      let one = (decided_planning bytes until few).one in
      (λ other stops'. one.stop other refusal stops' stops, λ done gives. one.apart done refusal gives stops)

module _ (laws : PlansDecide) (images : ImagesDecide) (states : StatesDecide) (files : Files) where
  decided_compiling : (name : List ℕ) → IsDecided (compiling (Some files) name)
  decided_compiling name = decided_then _ _ (decided_reading files file.Program name) (λ bytes read. decided_translating laws bytes)

  decided_listing : (unit : Whole) (inputs : Option (List ℕ)) → IsDecided (listing (Some files) unit inputs)
  decided_listing unit None = decided_pure (no_inputs unit)
  decided_listing unit (Some name) = decided_then _ _ (decided_reading files file.Inputs name) (λ bytes read. decided_stating unit bytes)

  decided_scripting : (unit : Whole) (script : Option (List ℕ)) → IsDecided (scripting (Some files) unit script)
  decided_scripting unit None = decided_pure no_script
  decided_scripting unit (Some name) = decided_then _ _ (decided_reading files file.Script name) (λ bytes read. decided_directing unit bytes)

  decided_running : (name : List ℕ) (until : ℕ) (inputs script : Option (List ℕ)) → IsDecided (running (Some files) name until inputs script)
  decided_running name until inputs script = decided_then _ _ (decided_compiling name) (λ unit made.
      decided_then _ _ (decided_supplying laws unit until (compiled laws.of_text (Some files) name unit made)) (λ supply supplied.
      decided_then _ _ (decided_listing unit inputs) (λ lists listed.
      decided_then _ _ (decided_scripting unit script) (λ said scripted.
      decided_then _ _ (decided_pacing unit until) (λ done paced.
      decided_pure (Ran unit supply.nexts supply.sizes until lists said))))))

  decided_checking : (name : List ℕ) (until : ℕ) → IsDecided (checking (Some files) name until)
  decided_checking name until = decided_then _ _ (decided_compiling name) (λ unit made.
      decided_then _ _ (decided_supplying laws unit until (compiled laws.of_text (Some files) name unit made)) (λ supply supplied.
      decided_pure (Checked unit supply.sizes supply.lines supply.extent)))

  decided_drawing : (name : List ℕ) → IsDecided (drawing (Some files) name)
  decided_drawing name = decided_then _ _ (decided_compiling name) (λ unit made.
      let of = compiled laws.of_text (Some files) name unit made in
      decided_then _ _ (decided_planned (plan.graphing unit) (laws.graphs unit of)) (λ graphs drawn.
      decided_then _ _ (decided_planned (plan.costing unit) (laws.costs unit of)) (λ costs found.
      decided_pure (Drawn unit graphs costs))))

  decided_trying : (seed until : ℕ) → IsDecided (trying seed until)
  decided_trying seed until = decided_then _ _ (decided_translating laws (made_text seed)) (λ unit made.
      decided_then _ _ (decided_supplying laws unit until (translated laws.of_text (made_text seed) unit (laws.short seed) made)) (λ supply supplied.
      decided_then _ _ (decided_pacing unit until) (λ done paced.
      decided_pure (Tried unit supply.nexts supply.sizes until))))

  decided_building : (name : List ℕ) → IsDecided (building (Some files) name)
  decided_building name = decided_then _ _ (decided_compiling name) (λ unit made.
      let (bytes, short, program) = compiled_program (Some files) name unit made in
      decided_then _ _ (decided_imaging images bytes unit short program) (λ image imaged.
      decided_pure (Built image)))

  one_executing : (name : List ℕ) (until : ℕ) (inputs script : Option (List ℕ)) → IsOne (executing (Some files) name until inputs script)
  one_executing name until inputs script = one_then _ _ (decided_reading files file.Image name).one (λ bytes read.
      one_then _ _ (one_decoding images bytes) (λ it spelled.
      one_then _ _ (one_verifying images it) (λ ways checked.
      one_then _ _ (one_supplying_by images bytes it ways until spelled checked) (λ supply supplied.
      one_then _ _ (decided_listing it.unit inputs).one (λ lists listed.
      one_then _ _ (decided_scripting it.unit script).one (λ said scripted.
      one_then _ _ (decided_pacing it.unit until).one (λ done paced.
      one_pure (Executed it.unit it.code supply.nexts supply.sizes until lists said))))))))

  decided_judging : (name : List ℕ) (until : ℕ) (trace : List ℕ) (script : Option (List ℕ)) → IsDecided (judging (Some files) name until trace script)
  decided_judging name until trace script = decided_then _ _ (decided_compiling name) (λ unit made.
      decided_then _ _ (decided_supplying laws unit until (compiled laws.of_text (Some files) name unit made)) (λ supply supplied.
      decided_then _ _ (decided_reading files file.Trace trace) (λ text read.
      decided_then _ _ (decided_scripting unit script) (λ said scripted.
      decided_then _ _ (decided_pacing unit until) (λ done paced.
      decided_then _ _ (decided_auditing (judged_by unit supply.nexts supply.sizes until said) text) (λ counts judged.
      decided_pure (Audited counts.acts counts.looks)))))))

  decided_tracing : (name : List ℕ) (until : ℕ) (inputs script : Option (List ℕ)) → IsDecided (tracing (Some files) name until inputs script)
  decided_tracing name until inputs script = decided_then _ _ (decided_compiling name) (λ unit made.
      decided_then _ _ (decided_supplying laws unit until (compiled laws.of_text (Some files) name unit made)) (λ supply supplied.
      decided_then _ _ (decided_listing unit inputs) (λ lists listed.
      decided_then _ _ (decided_scripting unit script) (λ said scripted.
      decided_then _ _ (decided_pacing unit until) (λ done paced.
      decided_then _ _ (decided_fitting (trace_by unit supply.nexts supply.sizes until lists said)) (λ told fits.
      decided_pure (Traced unit supply.nexts supply.sizes until lists said)))))))

  one_saving : (name : List ℕ) (date : ℕ) (inputs script : Option (List ℕ)) → IsOne (saving (Some files) name date inputs script)
  one_saving name date inputs script = one_then _ _ (decided_compiling name).one (λ unit made.
      one_then _ _ (decided_supplying laws unit date (compiled laws.of_text (Some files) name unit made)).one (λ supply supplied.
      one_then _ _ (decided_listing unit inputs).one (λ lists listed.
      one_then _ _ (decided_scripting unit script).one (λ said scripted.
      one_then _ _ (decided_pacing unit date).one (λ done paced.
      one_then _ _ (one_leaving (meaning_of unit supply.nexts lists said) date (state_text unit supply.nexts supply.sizes date lists said)) (λ over left.
      one_pure (Saved unit supply.nexts supply.sizes date lists said)))))))

  one_resuming : (name state : List ℕ) (until : ℕ) (inputs script : Option (List ℕ)) → IsOne (resuming (Some files) name state until inputs script)
  one_resuming name state until inputs script = one_then _ _ (decided_compiling name).one (λ unit made.
      one_then _ _ (decided_supplying laws unit until (compiled laws.of_text (Some files) name unit made)).one (λ supply supplied.
      one_then _ _ (decided_reading files file.State state).one (λ bytes read.
      one_then _ _ (one_restoring states (form_of (compiled_plan unit supply.nexts supply.sizes until) supply.graphs) bytes) (λ opening restored.
      one_then _ _ (decided_listing unit inputs).one (λ lists listed.
      one_then _ _ (decided_scripting unit script).one (λ said scripted.
      one_then _ _ (decided_pacing unit until).one (λ done paced.
      one_pure (Resumed unit supply.nexts supply.sizes until opening lists said))))))))

  -- Each command comes to one end at most; and to some, where it is plain: of the others the call itself shows it.
  one_serving : (command : Command) → IsOne (serving (Some files) command)
  one_serving (Run program until inputs script) = (decided_running program until inputs script).one
  one_serving (Check program until) = (decided_checking program until).one
  one_serving (Draw program) = (decided_drawing program).one
  one_serving (Make seed) = one_pure (Made (made_text seed))
  one_serving (Trial seed until) = (decided_trying seed until).one
  one_serving (Build program) = (decided_building program).one
  one_serving (Exec image until inputs script) = one_executing image until inputs script
  one_serving (Audit program until trace script) = (decided_judging program until trace script).one
  one_serving (Trace program until inputs script) = (decided_tracing program until inputs script).one
  one_serving (Save program date inputs script) = one_saving program date inputs script
  one_serving (Resume program state until inputs script) = one_resuming program state until inputs script

  some_serving : (command : Command) → IsPlain command → IsSome (serving (Some files) command)
  some_serving (Run program until inputs script) plain = (decided_running program until inputs script).some
  some_serving (Check program until) plain = (decided_checking program until).some
  some_serving (Draw program) plain = (decided_drawing program).some
  some_serving (Make seed) plain = inl (Made (made_text seed), refl)
  some_serving (Trial seed until) plain = (decided_trying seed until).some
  some_serving (Build program) plain = (decided_building program).some
  some_serving (Exec image until inputs script) plain = absurd plain
  some_serving (Audit program until trace script) plain = (decided_judging program until trace script).some
  some_serving (Trace program until inputs script) plain = (decided_tracing program until inputs script).some
  some_serving (Save program date inputs script) plain = absurd plain
  some_serving (Resume program state until inputs script) plain = absurd plain

  one_answering : (words : List (List ℕ)) → IsOne (answering words (Some files))
  one_answering words = one_then _ _ (decided_asking words).one (λ command asks. one_serving command)

  -- What the words ask for is plain.
  abbrev AskPlain : List (List ℕ) → Type 0
  AskPlain words = (command : Command) → Asks words command → IsPlain command

  some_answering : (words : List (List ℕ)) → AskPlain words → IsSome (answering words (Some files))
  some_answering words plain = some_then _ _ (decided_asking words).some (λ command asks. some_serving command (plain command asks))

  -- Two answers are the same.
  pub Answers-same : (words : List (List ℕ)) (status other : ℕ) (text another : List ℕ) → Answers words (Some files) status text → Answers words (Some files) other another → (status ≡ other) × (text ≡ another)
  Answers-same words status other text another (refused r p) (refused s q) = let same = (one_answering words).stop r s p q in (ap status_of same, ap line_of same)
  Answers-same words status other text another (refused r p) (served x q) = absurd ((one_answering words).apart x r q p)
  Answers-same words status other text another (served x p) (refused r q) = absurd ((one_answering words).apart x r p q)
  Answers-same words status other text another (served x p) (served y q) = (refl, ap text_of ((one_answering words).gift x y p q))

  -- There is one.
  pub Answers-some : (words : List (List ℕ)) → AskPlain words → (status : ℕ) × (text : List ℕ) × Answers words (Some files) status text
  Answers-some words plain = elim (some_answering words plain) [
    | inl done ↦ (0, text_of done.0, served done.0 done.1)
    | inr stop ↦ (status_of stop.0, line_of stop.0, refused stop.0 stop.1)
  ]
