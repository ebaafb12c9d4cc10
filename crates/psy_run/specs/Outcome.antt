-- How a call of the top ends. The counts of faults are those of the shelf and the sink before and after it.
use Rattle.std.specs.Prelude.{◌≡◌, ◌≢◌, ◌⊎◌, ℕ, ◌+◌, List, [], Option, None, Some, ⊤}
use Rattle.std.specs.List.{All}
use Rattle.psy_base.specs.declared.limits.TheConstants.{FILE_BYTES}
use Rattle.psy_dates.specs.Beginnings.{behind}
use Rattle.psy_dates.specs.declared.opening.Opening.{Opening as State}
use Rattle.psy_dates.specs.Plans.{IsPlan, IsSoundFor}
use Rattle.psy_door.specs.Faults.{Rose}
use Rattle.psy_door.specs.Files.{Files}
use Rattle.psy_door.specs.Growth.{Grew, GrewByFront}
use Rattle.psy_history.specs.Compiled.{AreInputs}
use Rattle.psy_kernel.specs.Progress.{Progress, began, booted}
use Rattle.psy_kernel.specs.Runs.{ended}
use Rattle.psy_history.specs.Scripts.{IsScript, stalls_of}
use Rattle.psy_log.specs.Forms.{read_line}
use Rattle.psy_run.specs.declared.refusal.File.{File}
use Rattle.psy_run.specs.declared.refusal.Refusal.{Refusal}
use Rattle.psy_run.specs.declared.refusal.Refusal.TheVariants.{TooLong}
use Rattle.psy_run.specs.declared.refusal.Stop.{Stop}
use Rattle.psy_run.specs.declared.refusal.Stop.TheVariants as stop
use Rattle.psy_meaning.specs.Units.{IsBare}
use Rattle.psy_graph.specs.Graphs.{IsSmall}
use Rattle.psy_run.specs.declared.served.Served.{Served}
use Rattle.psy_run.specs.declared.served.Served.TheVariants as served
use Rattle.psy_run.specs.Answer.{answering}
use Rattle.psy_run.specs.Asked.{Command, Asks}
use Rattle.psy_run.specs.Bounds.{IsBounded}
use Rattle.psy_run.specs.Courses.{Course}
use Rattle.psy_run.specs.Planned.{IsPlanned}
use Rattle.psy_run.specs.Refusals.{status_of, line_of, file_name}
use Rattle.psy_run.specs.Services.{Service, Leaves, no_inputs, no_script, saved_run, text_of, traced_run}

-- A course was left before its end: a step of it refused, or the read of the file that it had come to failed, or memory ran out.
pub data Halts {X : Type 0} (course : Course X) (failed : List ℕ) (before after : ℕ) : Stop → Type 0 where
  halts_refused : (refusal : Refusal) → course.stops refusal → Halts course failed before after (stop.Refused refusal)
  halts_unread : (file : File) → course.reads file failed → Rose before after → Halts course failed before after (stop.Unread file)
  halts_memory : Halts course failed before after stop.Memory

-- Where a command stopped at a file that is too long, the shelf took one byte more than a file may have.
abbrev pub TookLimit : ℕ → Stop → Type 0
TookLimit taken at = (file : File) → at ≡ stop.Refused (TooLong file) → taken ≡ FILE_BYTES + 1

-- Where it stopped at no file that couldn't be read, the count of the shelf's faults is as before.
abbrev pub Unfailed : ℕ → ℕ → Stop → Type 0
Unfailed before after at = ((file : File) → at ≢ stop.Unread file) → after ≡ before

-- A limit was passed: a step refused, and its line was added; where a file was too long, the shelf took one byte more than a file may have.
pub record IsPastLimit {X : Type 0} (course : Course X) (old now : Option (List ℕ)) (taken : ℕ) : Type 0 where
  pub refusal : Refusal
  pub stops : course.stops refusal
  pub grew : Grew old now (line_of refusal)
  pub took : (file : File) → refusal ≡ TooLong file → taken ≡ FILE_BYTES + 1

-- What a call is given and meets: the words, the files where they are told, the shelf's counts of faults, and the name that
-- failed last.
pub record Seen : Type 0 where
  pub words : List (List ℕ)
  pub files : Option Files
  pub failed : List ℕ
  pub before : ℕ
  pub after : ℕ

-- What the words come to
abbrev pub coming : Seen → Course Service
coming seen = answering seen.words seen.files

-- A file that the words name couldn't be read, and no step before that read refuses.
pub record IsUnread (seen : Seen) (file : File) : Type 0 where
  pub reads : (coming seen).reads file seen.failed
  pub rose : Rose seen.before seen.after

-- A status and a text that may answer the words, and the kernel that is then left: the defined one, or the line of a file that
-- couldn't be read
pub data MayAnswer (seen : Seen) : ℕ → List ℕ → Option Progress → Type 0 where
  may_refuse : (refusal : Refusal) → (coming seen).stops refusal → MayAnswer seen (status_of refusal) (line_of refusal) None
  may_miss : (file : File) → IsUnread seen file → MayAnswer seen 3 (read_line (file_name file)) None
  may_serve : (done : Service) (left : Option Progress) → (coming seen).gives done → Leaves done left → IsBounded done → MayAnswer seen 0 (text_of done) left

-- How a call ends, by what the sink held and counted before and after it: memory ran out for a command, or the text was
-- written, or a write of it failed.
pub data Ends (seen : Seen) (old now : Option (List ℕ)) (before after : ℕ) : ℕ → Option Progress → Type 0 where
  ends_memory : (command : Command) → Asks seen.words command → Grew old now [] → Ends seen old now before after 8 None
  ends_said : (status : ℕ) (text : List ℕ) (left : Option Progress) → MayAnswer seen status text left → Grew old now text
      → Ends seen old now before after status left
  ends_cut : (status : ℕ) (text : List ℕ) (left : Option Progress) → MayAnswer seen status text left → Rose before after → GrewByFront old now text
      → Ends seen old now before after 4 None

-- The status is that one and the text was added, or a write failed: then it is 4, and a front was added.
abbrev pub Says : Option (List ℕ) → Option (List ℕ) → ℕ → ℕ → ℕ → ℕ → List ℕ → Type 0
Says old now before after answer status text = ((answer ≡ status) × Grew old now text) ⊎ ((answer ≡ 4) × Rose before after × GrewByFront old now text)

-- A kernel ran to its end, with inputs and a script of its program, and the text is what is told of that run.
pub record HasTold (telling : Progress → Service) (kernel : Progress) (text : List ℕ) : Type 0 where
  pub over : kernel ≡ ended (booted kernel.plan kernel.inputs kernel.script)
  pub planned : IsPlanned kernel.plan
  pub its_inputs : AreInputs kernel.plan.unit kernel.inputs
  pub its_script : IsScript kernel.plan.unit kernel.script
  pub told : text ≡ text_of (telling kernel)

-- A kernel was just opened behind a state that runs of its plan may go on from, with inputs and a script of its program.
pub record CanGoOn (kernel : Progress) : Type 0 where
  pub state : State
  pub opened : kernel ≡ began kernel.plan kernel.inputs kernel.script (Some state)
  pub planned : IsPlanned kernel.plan
  pub its_inputs : AreInputs kernel.plan.unit kernel.inputs
  pub its_script : IsScript kernel.plan.unit kernel.script
  pub sound : IsSoundFor kernel.plan (behind kernel.plan state) kernel.inputs (stalls_of kernel.script)

-- What is served can be: a kernel was just booted or opened, with inputs and a script of its program, or booted without; or it ran to its end, with what
-- is told of that run; and the names of a unit are short.
abbrev pub CanServe : Served → Type 0
CanServe (served.Ran kernel) = (kernel ≡ booted kernel.plan kernel.inputs kernel.script) × IsPlanned kernel.plan × AreInputs kernel.plan.unit kernel.inputs
    × IsScript kernel.plan.unit kernel.script
CanServe (served.Checked unit sizes lines extent) = IsBare unit
CanServe (served.Drawn unit graphs costs) = IsBare unit × All IsSmall graphs
CanServe (served.Made text) = ⊤
CanServe (served.Built image) = ⊤
CanServe (served.Audited acts looks) = ⊤
CanServe (served.Executed kernel) = (kernel ≡ booted kernel.plan kernel.inputs kernel.script) × IsPlan kernel.plan × AreInputs kernel.plan.unit kernel.inputs
    × IsScript kernel.plan.unit kernel.script
CanServe (served.Tried kernel) = (kernel ≡ booted kernel.plan (no_inputs kernel.plan.unit) no_script) × IsPlanned kernel.plan
CanServe (served.Traced kernel text) = HasTold traced_run kernel text.items
CanServe (served.Saved kernel text) = HasTold saved_run kernel text.items
CanServe (served.Resumed kernel) = CanGoOn kernel
