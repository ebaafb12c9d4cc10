-- The steps that judge a command, each with its refusal. Those from a text to what a run needs are the plan's.
use Rattle.std.specs.Prelude.{◌≡◌, ℕ, ◌*◌, ◌<◌, ◌≤◌, List, length, Option, None, Some, ℤ}
use Rattle.psy_audit.specs.Answers.{fault_at}
use Rattle.psy_audit.specs.Faults.{IsLegal, first_fault}
use Rattle.psy_audit.specs.Texts.{lines_in}
use Rattle.psy_audit.specs.Traces.{Judged, acts as acts_told, looks as looks_told}
use Rattle.psy_base.specs.declared.limits.TheConstants.{FILE_BYTES, RUN}
use Rattle.psy_base.specs.declared.sizes.Sizes.{Sizes}
use Rattle.psy_base.specs.declared.ways.Ways.{Ways as WayLists}
use Rattle.psy_dates.specs.declared.opening.Opening.{Opening as State}
use Rattle.psy_door.specs.Files.{Files, WhereTold, bytes_under}
use Rattle.psy_flow.specs.Verified.{IsLeastFault}
use Rattle.psy_gen.specs.Emission.{code_of}
use Rattle.psy_graph.specs.declared.graph.Graph.{Graph}
use Rattle.psy_history.specs.declared.told.Script.{Script as Said}
use Rattle.psy_history.specs.Actions.{System}
use Rattle.psy_history.specs.Resuming.{IsQuiet}
use Rattle.psy_history.specs.Scripts.{order_of}
use Rattle.psy_image.specs.Answers.{IsBadAt, image_of}
use Rattle.psy_image.specs.Images.{spells_image}
use Rattle.psy_image.specs.declared.image.Image.{Image as CodeImage}
use Rattle.psy_kernel.specs.Freezing.{IsFirstBusy}
use Rattle.psy_plan.specs.Steps as plan
use Rattle.psy_script.specs.Faults.{HasManyLines, IsFirst}
use Rattle.psy_script.specs.Inputs.{AreListsOf, inputs_judge}
use Rattle.psy_script.specs.Script.{IsScriptOf, script_judge}
use Rattle.psy_snap.specs.Bytes.{spelling}
use Rattle.psy_snap.specs.Faults.{faults_of, least_fault}
use Rattle.psy_snap.specs.Forms.{Form}
use Rattle.psy_snap.specs.Ranges.{FitsState}
use Rattle.psy_snap.specs.Shapes.{HasForm}
use Rattle.psy_tree.specs.Parts.{agent_at}
use Rattle.psy_tree.specs.declared.unit.Unit.{Unit as Whole}
use Rattle.psy_verify.specs.Fits.{IsChecked}
use Rattle.psy_run.specs.declared.refusal.File.{File}
use Rattle.psy_run.specs.declared.refusal.File.TheVariants.{Inputs, Script}
use Rattle.psy_run.specs.declared.refusal.Refusal.{Refusal}
use Rattle.psy_run.specs.declared.refusal.Refusal.TheVariants.{Words, TooLong, Line, Lines, Cycles, Image, Code, Large, Trace, LongTrace, LongState, Busy}
use Rattle.psy_run.specs.declared.refusal.Refusal.TheVariants.{State as BadState}
use Rattle.psy_run.specs.Asked.{Command, Asks, AskNothing}
use Rattle.psy_run.specs.Courses.{Course, planned, step, unless, ◌>>=◌}

-- What the words ask for
abbrev pub asking : List (List ℕ) → Course Command
asking words = step (Asks words) (λ refusal. (refusal ≡ Words) × AskNothing words)

-- The bytes of the file with this name, at most 262,144: where files are told those under the name, else some.
abbrev pub reading : Option Files → File → List ℕ → Course (List ℕ)
reading files file name = record {
  gives = λ bytes. (length bytes ≤ FILE_BYTES) × WhereTold files (λ held. bytes ≡ bytes_under held name);
  stops = λ refusal. (refusal ≡ TooLong file) × WhereTold files (λ held. FILE_BYTES < length (bytes_under held name));
  reads = λ asked under. (asked ≡ file) × (under ≡ name);
}

-- The bytes are no image, and the first field that is missing, cut or out of range begins there.
abbrev pub IsUnspelled : List ℕ → Refusal → Type 0
IsUnspelled bytes (Image place) = IsBadAt bytes place
IsUnspelled bytes _ = ⊥

-- The image that bytes spell
abbrev pub decoding : List ℕ → Course CodeImage
decoding bytes = step (λ it. spells_image it bytes) (IsUnspelled bytes)

-- The code of an image isn't verified, and of its faults this is the least.
abbrev pub IsUnverified : CodeImage → Refusal → Type 0
IsUnverified it (Code number place) = IsLeastFault it.unit it.code number place
IsUnverified it _ = ⊥

-- The ways of an image's code, where it is verified
abbrev pub verifying : CodeImage → Course WayLists
verifying it = step (IsChecked it.unit it.code) (IsUnverified it)

-- The image of a program: of its unit and of the code that the compiler makes of it, in at most 262,144 bytes
abbrev pub imaging : Whole → Course (List ℕ)
imaging unit = step (λ bytes. spells_image (image_of unit (code_of unit)) bytes × (length bytes ≤ FILE_BYTES))
    (λ refusal. (refusal ≡ Large) × (bytes : List ℕ) × spells_image (image_of unit (code_of unit)) bytes × (FILE_BYTES < length bytes))

-- What a trace of a program is judged by: the points that follow each point, the places of its rings, its last date, and the order of ties under a
-- script
abbrev pub judged_by : Whole → List (List (List ℕ)) → Sizes → ℕ → Said → Judged
judged_by unit nexts sizes until script = record { unit = unit; nexts = nexts; rings = sizes.rings; until = until; order = order_of unit script }

-- How many actions and how many looks a trace tells of
pub record Counts : Type 0 where
  pub acts : ℕ
  pub looks : ℕ

-- The first fault of a text as a trace
abbrev pub IsUntrue : Judged → List ℕ → Refusal → Type 0
IsUntrue j text (Trace number line) = first_fault j (lines_in j.unit j.until text) ≡ Some (fault_at number line)
IsUntrue j text _ = ⊥

-- A legal trace, by its counts
abbrev pub auditing : Judged → List ℕ → Course Counts
auditing j text = step (λ counts. IsLegal j (lines_in j.unit j.until text)
    × (counts ≡ record { acts = length (acts_told (lines_in j.unit j.until text)); looks = length (looks_told (lines_in j.unit j.until text)) }))
    (IsUntrue j text)

-- The action graphs of a program's agents
abbrev pub graphing : Whole → Course (List Graph)
graphing unit = planned (plan.graphing unit)

-- The greatest costs of the actions, by agent and point: they are there for each program.
abbrev pub costing : Whole → Course (List (List ℕ))
costing unit = planned (plan.costing unit)

-- The first line of an inputs file that is at fault, where there are no more than 10,000, or else that there are more
abbrev pub IsUnlisted : Whole → List ℕ → Refusal → Type 0
IsUnlisted unit bytes (Line file kind line) = (file ≡ Inputs) × IsFirst (inputs_judge unit) bytes kind line
IsUnlisted unit bytes Lines = HasManyLines bytes
IsUnlisted unit bytes _ = ⊥

-- By variable, the list of values that the text of an inputs file states
abbrev pub stating : Whole → List ℕ → Course (List (List ℤ))
stating unit bytes = step (AreListsOf unit bytes) (IsUnlisted unit bytes)

-- The same of a script file
abbrev pub IsUnscripted : Whole → List ℕ → Refusal → Type 0
IsUnscripted unit bytes (Line file kind line) = (file ≡ Script) × IsFirst (script_judge unit) bytes kind line
IsUnscripted unit bytes Lines = HasManyLines bytes
IsUnscripted unit bytes _ = ⊥

-- The script that the text of a script file states
abbrev pub directing : Whole → List ℕ → Course Said
directing unit bytes = step (IsScriptOf unit bytes) (IsUnscripted unit bytes)

-- A run has at most 100,000,000 cycles.
abbrev pub pacing : Whole → ℕ → Course (Unit {0})
pacing unit until = unless (until * unit.quantum ≤ RUN) (RUN < until * unit.quantum) Cycles

-- The trace of a run has at most 262,144 bytes.
abbrev pub fitting : List ℕ → Course (Unit {0})
fitting trace = unless (length trace ≤ FILE_BYTES) (FILE_BYTES < length trace) LongTrace

-- The action of an agent with this name is under way at a date, and none of an agent before it is.
abbrev pub IsBusyAt : System → ℕ → Refusal → Type 0
IsBusyAt s date (Busy name) = (agent : ℕ) × IsFirstBusy s date agent × (name ≡ (agent_at s.unit agent).name)
IsBusyAt s date _ = ⊥

-- The date is quiet.
abbrev pub resting : System → ℕ → Course (Unit {0})
resting s date = step (λ done. IsQuiet s date) (IsBusyAt s date)

-- A state has at most 262,144 bytes.
abbrev pub holding : List ℕ → Course (Unit {0})
holding state = unless (length state ≤ FILE_BYTES) (FILE_BYTES < length state) LongState

-- A state is taken at a quiet date, and has no more bytes than it may.
abbrev pub leaving : System → ℕ → List ℕ → Course (Unit {0})
leaving s date state = do
  _ ← resting s date
  holding state

-- The bytes spell a state of this form, and are without a fault.
pub record IsStateOf (form : Form) (bytes : List ℕ) (state : State) : Type 0 where
  pub spelled : spelling state ≡ bytes
  pub formed : HasForm form state
  pub ranges : FitsState state
  pub sound : least_fault (faults_of form bytes) ≡ None

-- The first fault of bytes as a state
abbrev pub IsUnsound : Form → List ℕ → Refusal → Type 0
IsUnsound form bytes (BadState number place) = least_fault (faults_of form bytes) ≡ Some (record { number = number; place = place })
IsUnsound form bytes _ = ⊥

-- The state that bytes spell
abbrev pub restoring : Form → List ℕ → Course State
restoring form bytes = step (IsStateOf form bytes) (IsUnsound form bytes)
