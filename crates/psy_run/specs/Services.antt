-- What a command does, once nothing refuses it, and its text.
use Rattle.std.specs.Prelude.{◌≡◌, ℕ, ◌+◌, ◌*◌, List, [], map, length, Option, None, Some, ℤ}
use Rattle.psy_audit.specs.Spelled.{trace_text}
use Rattle.psy_dates.specs.Beginnings.{behind}
use Rattle.psy_dates.specs.declared.opening.Opening.{Opening as State}
use Rattle.psy_dates.specs.declared.plan.Plan.{Plan}
use Rattle.psy_tree.specs.declared.unit.Unit.{Unit as Whole}
use Rattle.psy_gen.specs.Emission.{code_of}
use Rattle.psy_history.specs.Actions.{Opening, System}
use Rattle.psy_history.specs.Resuming.{opening_at}
use Rattle.psy_history.specs.Scheduled.{turns_by}
use Rattle.psy_graph.specs.declared.graph.Graph.{Graph}
use Rattle.psy_code.specs.declared.code.Code.{Code}
use Rattle.psy_dates.specs.Plans.{IsPlan}
use Rattle.psy_history.specs.Compiled.{coded, stated, stated_behind}
use Rattle.psy_base.specs.declared.sizes.Sizes.{Sizes}
use Rattle.psy_history.specs.declared.told.Script.{Script}
use Rattle.psy_kernel.specs.Freezing.{state_by}
use Rattle.psy_kernel.specs.Progress.{Progress, lines_told}
use Rattle.psy_history.specs.Scripts.{order_of, stalls_of}
use Rattle.psy_kernel.specs.Texts.{run_text, summary_of, text_of as lines_text}
use Rattle.psy_log.specs.Forms.{legal_line}
use Rattle.psy_rate.specs.declared.line.Rate.{Rate}
use Rattle.psy_plan.specs.declared.extent.Extent.{Extent}
use Rattle.psy_snap.specs.Bytes.{spelling}
use Rattle.psy_run.specs.declared.served.Served.{Served}
use Rattle.psy_run.specs.declared.served.Served.TheVariants as served
use Rattle.psy_run.specs.Planned.{IsPlanned}
use Rattle.psy_run.specs.Texts.{check_text, graph_text}

-- What a command does: it runs a program, whose points may be followed by these and whose buffers have these sizes, up to a date, with
-- inputs and a script; it checks one, with these lines above its demand; it draws its graphs; it makes the text of one; it runs one that was made; it
-- builds the image of one; it runs the code of an image; it finds a trace to be legal, with so many actions and looks; it tells the trace of a run; it
-- saves the state that a run leaves; or it goes on with a run from a state.
pub data Service : Type 0 where
  Ran : (unit : Whole) (nexts : List (List (List ℕ))) (sizes : Sizes) (until : ℕ) (inputs : List (List ℤ)) (script : Script) → Service
  Checked : (unit : Whole) (sizes : Sizes) (lines : List Rate) (extent : Extent) → Service
  Drawn : (unit : Whole) (graphs : List Graph) (costs : List (List ℕ)) → Service
  Made : (text : List ℕ) → Service
  Tried : (unit : Whole) (nexts : List (List (List ℕ))) (sizes : Sizes) (until : ℕ) → Service
  Built : (image : List ℕ) → Service
  Audited : (acts looks : ℕ) → Service
  Executed : (unit : Whole) (code : Code) (nexts : List (List (List ℕ))) (sizes : Sizes) (until : ℕ) (inputs : List (List ℤ)) (script : Script) → Service
  Traced : (unit : Whole) (nexts : List (List (List ℕ))) (sizes : Sizes) (until : ℕ) (inputs : List (List ℤ)) (script : Script) → Service
  Saved : (unit : Whole) (nexts : List (List (List ℕ))) (sizes : Sizes) (date : ℕ) (inputs : List (List ℤ)) (script : Script) → Service
  Resumed : (unit : Whole) (nexts : List (List (List ℕ))) (sizes : Sizes) (until : ℕ) (state : State) (inputs : List (List ℤ)) (script : Script) → Service

-- ---- the meaning of a run

-- No input has a list.
abbrev pub no_inputs : Whole → List (List ℤ)
no_inputs unit = map (λ v. []) unit.variables

-- No action is stalled, ties go by the order of declaration, and processors by their numbers.
abbrev pub no_script : Script
no_script = record { stalls = []; orders = []; rounds = [] }

-- The dated meaning of a program's statements, with these inputs and this script. Of the script it knows the stalls, by which actions overrun.
abbrev pub meaning_of : Whole → List (List (List ℕ)) → List (List ℤ) → Script → System
meaning_of unit nexts inputs script = stated unit nexts (stalls_of script) inputs

-- The dated meaning of code, with these inputs and this script
abbrev pub meaning_by : Whole → Code → List (List (List ℕ)) → List (List ℤ) → Script → System
meaning_by unit code nexts inputs script = coded unit code nexts (stalls_of script) inputs

-- ---- states

-- The plan by which a program is run: its code is what the compiler makes of it.
abbrev pub compiled_plan : Whole → List (List (List ℕ)) → Sizes → ℕ → Plan
compiled_plan unit nexts sizes until = record { unit = unit; code = code_of unit; nexts = nexts; sizes = sizes; until = until }

-- The dated meaning of a program's statements behind the date of a state: the history that begins with the state's opening
abbrev pub meaning_behind : Whole → List (List (List ℕ)) → Sizes → ℕ → State → List (List ℤ) → Script → System
meaning_behind unit nexts sizes until state inputs script =
    stated_behind unit nexts (stalls_of script) inputs (behind (compiled_plan unit nexts sizes until) state)

-- The opening of the dated meaning of a program's statements at a date
abbrev pub opening_by : Whole → List (List (List ℕ)) → Sizes → ℕ → List (List ℤ) → Script → Opening
opening_by unit nexts sizes date inputs script =
    let s = meaning_of unit nexts inputs script in
    opening_at s sizes.rings (turns_by s (order_of unit script) (date * unit.quantum)) date

-- The state of that opening
abbrev pub state_at : Whole → List (List (List ℕ)) → Sizes → ℕ → List (List ℤ) → Script → State
state_at unit nexts sizes date inputs script = state_by (compiled_plan unit nexts sizes date) (opening_by unit nexts sizes date inputs script)

-- ---- texts

-- The bytes of the state that a run leaves at a date
abbrev pub state_text : Whole → List (List (List ℕ)) → Sizes → ℕ → List (List ℤ) → Script → List ℕ
state_text unit nexts sizes date inputs script = spelling (state_at unit nexts sizes date inputs script)

-- The trace of a run by the dated meaning of a program's statements: it tells the schedule of deadlines, and knows no code.
abbrev pub trace_by : Whole → List (List (List ℕ)) → Sizes → ℕ → List (List ℤ) → Script → List ℕ
trace_by unit nexts sizes until inputs script = trace_text (meaning_of unit nexts inputs script) (order_of unit script) sizes until

-- The text of what is done. That of a run is the one of the dated meaning, which knows no code and no schedule but for the summary.
abbrev pub text_of : Service → List ℕ
text_of (Ran unit nexts sizes until inputs script) = run_text (meaning_of unit nexts inputs script) (order_of unit script) sizes until
text_of (Checked unit sizes lines extent) = check_text unit sizes lines extent
text_of (Drawn unit graphs costs) = graph_text unit.agents graphs costs
text_of (Made text) = text
text_of (Built image) = image
text_of (Audited acts looks) = legal_line acts looks
text_of (Executed unit code nexts sizes until inputs script) = run_text (meaning_by unit code nexts inputs script) (order_of unit script) sizes until
text_of (Traced unit nexts sizes until inputs script) = trace_by unit nexts sizes until inputs script
text_of (Saved unit nexts sizes date inputs script) = state_text unit nexts sizes date inputs script
text_of (Resumed unit nexts sizes until state inputs script) =
    run_text (meaning_behind unit nexts sizes until state inputs script) (order_of unit script) sizes until
text_of (Tried unit nexts sizes until) = lines_text (summary_of (meaning_of unit nexts (no_inputs unit) no_script) (order_of unit no_script) sizes until)

-- ---- what is left

-- A kernel that ran the program from date 0, or from behind a state, to its last date: it is over, and gave all its lines.
pub record HasRun (unit : Whole) (nexts : List (List (List ℕ))) (sizes : Sizes) (until : ℕ) (inputs : List (List ℤ)) (script : Script)
    (opening : Option State) (p : Progress) : Type 0 where
  pub its_unit : p.plan.unit ≡ unit
  pub its_nexts : p.plan.nexts ≡ nexts
  pub its_sizes : p.plan.sizes ≡ sizes
  pub its_until : p.plan.until ≡ until
  pub its_inputs : p.inputs ≡ inputs
  pub its_script : p.script ≡ script
  pub its_opening : p.opening ≡ opening
  pub dates : p.dates ≡ until + 1
  pub cycles : p.cycles ≡ until * unit.quantum
  pub given : p.given ≡ length (lines_told p)

-- The kernel that is left: that of a run, traced, saved or not, by a plan of its program's statements or of an image's code, and none of another command
abbrev pub Leaves : Service → Option Progress → Type 0
Leaves (Ran unit nexts sizes until inputs script) left =
    (p : Progress) × (left ≡ Some p) × IsPlanned p.plan × HasRun unit nexts sizes until inputs script None p
Leaves (Traced unit nexts sizes until inputs script) left =
    (p : Progress) × (left ≡ Some p) × IsPlanned p.plan × HasRun unit nexts sizes until inputs script None p
Leaves (Tried unit nexts sizes until) left =
    (p : Progress) × (left ≡ Some p) × IsPlanned p.plan × HasRun unit nexts sizes until (no_inputs unit) no_script None p
Leaves (Executed unit code nexts sizes until inputs script) left =
    (p : Progress) × (left ≡ Some p) × IsPlan p.plan × (p.plan.code ≡ code) × HasRun unit nexts sizes until inputs script None p
Leaves (Saved unit nexts sizes date inputs script) left =
    (p : Progress) × (left ≡ Some p) × IsPlanned p.plan × HasRun unit nexts sizes date inputs script None p
Leaves (Resumed unit nexts sizes until state inputs script) left =
    (p : Progress) × (left ≡ Some p) × IsPlanned p.plan × HasRun unit nexts sizes until inputs script (Some state) p
Leaves service left = left ≡ None

-- ---- what is served

-- The trace of a kernel's run
abbrev pub traced_run : Progress → Service
traced_run kernel = Traced kernel.plan.unit kernel.plan.nexts kernel.plan.sizes kernel.plan.until kernel.inputs kernel.script

-- The state that it left
abbrev pub saved_run : Progress → Service
saved_run kernel = Saved kernel.plan.unit kernel.plan.nexts kernel.plan.sizes kernel.plan.until kernel.inputs kernel.script

-- Its run from where it began: from a state, or from date 0 where there is none
abbrev pub run_from : Progress → Option State → Service
run_from kernel None = Ran kernel.plan.unit kernel.plan.nexts kernel.plan.sizes kernel.plan.until kernel.inputs kernel.script
run_from kernel (Some state) = Resumed kernel.plan.unit kernel.plan.nexts kernel.plan.sizes kernel.plan.until state kernel.inputs kernel.script

-- What was made ready for it: a kernel that was just booted or opened, or what is written, that of a trace or a state with the kernel that ran
abbrev pub service_of : Served → Service
service_of (served.Ran kernel) = Ran kernel.plan.unit kernel.plan.nexts kernel.plan.sizes kernel.plan.until kernel.inputs kernel.script
service_of (served.Checked unit sizes lines extent) = Checked unit sizes lines extent
service_of (served.Drawn unit graphs costs) = Drawn unit graphs costs
service_of (served.Made text) = Made text.items
service_of (served.Tried kernel) = Tried kernel.plan.unit kernel.plan.nexts kernel.plan.sizes kernel.plan.until
service_of (served.Built image) = Built image.items
service_of (served.Audited acts looks) = Audited acts looks
service_of (served.Executed kernel) =
    Executed kernel.plan.unit kernel.plan.code kernel.plan.nexts kernel.plan.sizes kernel.plan.until kernel.inputs kernel.script
service_of (served.Traced kernel text) = traced_run kernel
service_of (served.Saved kernel text) = saved_run kernel
service_of (served.Resumed kernel) = run_from kernel kernel.opening

-- The run of a plan without inputs and script
abbrev pub planned_run : Plan → Service
planned_run plan = Tried plan.unit plan.nexts plan.sizes plan.until
