-- The defined answer: the status and the text that belong to the words and to the files that are told.
use Rattle.std.specs.Prelude.{ℕ, List, Option, None, Some, ℤ}
use Rattle.psy_base.specs.declared.ways.Ways.{Ways as WayLists}
use Rattle.psy_door.specs.Files.{Files}
use Rattle.psy_tree.specs.declared.unit.Unit.{Unit as Whole}
use Rattle.psy_history.specs.declared.told.Script.{Script}
use Rattle.psy_kernel.specs.Progress.{Progress}
use Rattle.psy_make.specs.Text.{made_text}
use Rattle.psy_plan.specs.Programs as programs
use Rattle.psy_plan.specs.Supplies as supplies
use Rattle.psy_plan.specs.Supplies.{Supply}
use Rattle.psy_snap.specs.Forms.{form_of}
use Rattle.psy_run.specs.declared.refusal.File.TheVariants as file
use Rattle.psy_run.specs.declared.refusal.Refusal.{Refusal}
use Rattle.psy_run.specs.Asked.{Command, Run, Check, Graph as Draw, Make, Trial, Build, Exec, Audit, Trace, Save, Resume}
use Rattle.psy_run.specs.Courses.{Course, planned, pure, ◌>>=◌}
use Rattle.psy_run.specs.Refusals.{status_of, line_of}
use Rattle.psy_run.specs.Services.{Service, Ran, Checked, Drawn, Made, Tried, Built, Executed, Audited, Traced, Saved, Resumed}
use Rattle.psy_run.specs.Services.{compiled_plan, meaning_of, no_inputs, no_script, saved_run, state_text, text_of, trace_by}
use Rattle.psy_run.specs.Steps.{asking, reading, auditing, judged_by, decoding, verifying, imaging, graphing, costing, pacing, stating, directing, fitting}
use Rattle.psy_run.specs.Steps.{leaving, restoring}

-- ---- the commands

-- The program of a text
abbrev pub translating : List ℕ → Course Whole
translating bytes = planned (programs.translating bytes)

-- The program in a file
abbrev pub compiling : Option Files → List ℕ → Course Whole
compiling files name = do
  bytes ← reading files file.Program name
  translating bytes

-- What a program needs that its processors can run, where each of them can supply what its agents may demand up to this date
abbrev pub supplying : Whole → ℕ → Course Supply
supplying unit until = planned (supplies.supplying unit until)

-- The same for an image, by the ways of its code
abbrev pub supplying_by : Whole → WayLists → ℕ → Course Supply
supplying_by unit ways until = planned (supplies.supplying_by unit ways until)

-- By variable, the lists that the inputs file states; without a file there is none.
abbrev pub listing : Option Files → Whole → Option (List ℕ) → Course (List (List ℤ))
listing files unit None = pure (no_inputs unit)
listing files unit (Some name) = do
  bytes ← reading files file.Inputs name
  stating unit bytes

-- The script that the script file states; without a file there are no stalls, no orders and no rounds.
abbrev pub scripting : Option Files → Whole → Option (List ℕ) → Course Script
scripting files unit None = pure no_script
scripting files unit (Some name) = do
  bytes ← reading files file.Script name
  directing unit bytes

-- `run PROG UNTIL [INPUTS [SCRIPT]]`
abbrev pub running : Option Files → List ℕ → ℕ → Option (List ℕ) → Option (List ℕ) → Course Service
running files name until inputs script = do
  unit ← compiling files name
  supply ← supplying unit until
  lists ← listing files unit inputs
  said ← scripting files unit script
  _ ← pacing unit until
  pure (Ran unit supply.nexts supply.sizes until lists said)

-- `check PROG UNTIL`
abbrev pub checking : Option Files → List ℕ → ℕ → Course Service
checking files name until = do
  unit ← compiling files name
  supply ← supplying unit until
  pure (Checked unit supply.sizes supply.lines supply.extent)

-- `graph PROG`
abbrev pub drawing : Option Files → List ℕ → Course Service
drawing files name = do
  unit ← compiling files name
  graphs ← graphing unit
  costs ← costing unit
  pure (Drawn unit graphs costs)

-- `make SEED`
abbrev pub making : ℕ → Course Service
making seed = pure (Made (made_text seed))

-- `trial SEED UNTIL`
abbrev pub trying : ℕ → ℕ → Course Service
trying seed until = do
  unit ← translating (made_text seed)
  supply ← supplying unit until
  _ ← pacing unit until
  pure (Tried unit supply.nexts supply.sizes until)

-- `build PROG`
abbrev pub building : Option Files → List ℕ → Course Service
building files name = do
  unit ← compiling files name
  image ← imaging unit
  pure (Built image)

-- `exec IMAGE UNTIL [INPUTS [SCRIPT]]`
abbrev pub executing : Option Files → List ℕ → ℕ → Option (List ℕ) → Option (List ℕ) → Course Service
executing files name until inputs script = do
  bytes ← reading files file.Image name
  it ← decoding bytes
  ways ← verifying it
  supply ← supplying_by it.unit ways until
  lists ← listing files it.unit inputs
  said ← scripting files it.unit script
  _ ← pacing it.unit until
  pure (Executed it.unit it.code supply.nexts supply.sizes until lists said)

-- `audit PROG UNTIL TRACE [SCRIPT]`
abbrev pub judging : Option Files → List ℕ → ℕ → List ℕ → Option (List ℕ) → Course Service
judging files name until trace script = do
  unit ← compiling files name
  supply ← supplying unit until
  text ← reading files file.Trace trace
  said ← scripting files unit script
  _ ← pacing unit until
  counts ← auditing (judged_by unit supply.nexts supply.sizes until said) text
  pure (Audited counts.acts counts.looks)

-- `trace PROG UNTIL [INPUTS [SCRIPT]]`: the steps of `run`, and the length of the trace
abbrev pub tracing : Option Files → List ℕ → ℕ → Option (List ℕ) → Option (List ℕ) → Course Service
tracing files name until inputs script = do
  unit ← compiling files name
  supply ← supplying unit until
  lists ← listing files unit inputs
  said ← scripting files unit script
  _ ← pacing unit until
  _ ← fitting (trace_by unit supply.nexts supply.sizes until lists said)
  pure (Traced unit supply.nexts supply.sizes until lists said)

-- What is asked of a kernel's run that is to be saved
abbrev pub leaving_of : Progress → Course (Unit {0})
leaving_of kernel =
    leaving (meaning_of kernel.plan.unit kernel.plan.nexts kernel.inputs kernel.script) kernel.plan.until (text_of (saved_run kernel))

-- `save PROG DATE [INPUTS [SCRIPT]]`: the steps of `run`, then that the date is quiet, and the length of the state
abbrev pub saving : Option Files → List ℕ → ℕ → Option (List ℕ) → Option (List ℕ) → Course Service
saving files name date inputs script = do
  unit ← compiling files name
  supply ← supplying unit date
  lists ← listing files unit inputs
  said ← scripting files unit script
  _ ← pacing unit date
  _ ← leaving (meaning_of unit supply.nexts lists said) date (state_text unit supply.nexts supply.sizes date lists said)
  pure (Saved unit supply.nexts supply.sizes date lists said)

-- `resume PROG STATE UNTIL [INPUTS [SCRIPT]]`
abbrev pub resuming : Option Files → List ℕ → List ℕ → ℕ → Option (List ℕ) → Option (List ℕ) → Course Service
resuming files name state until inputs script = do
  unit ← compiling files name
  supply ← supplying unit until
  bytes ← reading files file.State state
  opening ← restoring (form_of (compiled_plan unit supply.nexts supply.sizes until) supply.graphs) bytes
  lists ← listing files unit inputs
  said ← scripting files unit script
  _ ← pacing unit until
  pure (Resumed unit supply.nexts supply.sizes until opening lists said)

-- A run of the program of a text, without inputs and script, however many cycles it has
abbrev pub planning : List ℕ → ℕ → Course Service
planning bytes until = do
  unit ← translating bytes
  supply ← supplying unit until
  pure (Tried unit supply.nexts supply.sizes until)

-- A command
abbrev pub serving : Option Files → Command → Course Service
serving files (Run program until inputs script) = running files program until inputs script
serving files (Check program until) = checking files program until
serving files (Draw program) = drawing files program
serving files (Make seed) = making seed
serving files (Trial seed until) = trying seed until
serving files (Build program) = building files program
serving files (Exec image until inputs script) = executing files image until inputs script
serving files (Audit program until trace script) = judging files program until trace script
serving files (Trace program until inputs script) = tracing files program until inputs script
serving files (Save program date inputs script) = saving files program date inputs script
serving files (Resume program state until inputs script) = resuming files program state until inputs script

-- The words: what they ask for, then that
abbrev pub answering : List (List ℕ) → Option Files → Course Service
answering words files = do
  command ← asking words
  serving files command

-- The status and the text that answer the words, where files are told those.
pub data Answers (words : List (List ℕ)) (files : Option Files) : ℕ → List ℕ → Type 0 where
  refused : (refusal : Refusal) → (answering words files).stops refusal → Answers words files (status_of refusal) (line_of refusal)
  served : (done : Service) → (answering words files).gives done → Answers words files 0 (text_of done)
