-- The status and the line of each refusal.
use Rattle.std.specs.Prelude.{ℕ, List, codes, Some}
use Rattle.psy_base.specs.declared.limits.TheConstants as limit
use Rattle.psy_log.specs.Forms.{busy_line, words_line, limit_line, refused_line, refused_image_line}
use Rattle.psy_plan.specs.declared.refusal.Refusal.{Refusal as Cause}
use Rattle.psy_plan.specs.declared.refusal.Refusal.TheVariants.{Lexical, Syntax, Deep, Rule, Many, Nodes, Edges, Ring, Queue, Cells, Infeasible}
use Rattle.psy_plan.specs.declared.refusal.Stop.{Stop as PlanStop}
use Rattle.psy_plan.specs.declared.refusal.Stop.TheVariants as plan
use Rattle.psy_plan.specs.Lines.{line_of as line_of_plan}
use Rattle.psy_script.specs.declared.fault.TextFault.{TextFault}
use Rattle.psy_script.specs.declared.fault.TextFault.TheVariants as text
use Rattle.psy_script.specs.Faults.{line_number}
use Rattle.psy_run.specs.declared.refusal.File.{File}
use Rattle.psy_run.specs.declared.refusal.File.TheVariants.{Program, Image as ImageFile, Inputs, Script, Trace as TraceFile, State as StateFile}
use Rattle.psy_run.specs.declared.refusal.Refusal.{Refusal}
use Rattle.psy_run.specs.declared.refusal.Refusal.TheVariants.{Words, TooLong, Unplanned, Line, Lines, Cycles, Image, Code, Large, Trace, LongTrace}
use Rattle.psy_run.specs.declared.refusal.Refusal.TheVariants.{State, LongState, Busy}
use Rattle.psy_run.specs.declared.refusal.Stop.{Stop}
use Rattle.psy_run.specs.declared.refusal.Stop.TheVariants as stop

-- The status of each refusal of the plan: 1 for the text, 5 for the demand, 7 for a limit
abbrev pub status_of_plan : Cause → ℕ
status_of_plan (Lexical kind place) = 1
status_of_plan (Syntax token) = 1
status_of_plan (Deep token) = 1
status_of_plan (Rule kind token) = 1
status_of_plan (Many count) = 7
status_of_plan Nodes = 7
status_of_plan Edges = 7
status_of_plan Ring = 7
status_of_plan Queue = 7
status_of_plan Cells = 7
status_of_plan (Infeasible length demand supply processor) = 5

-- The status of each refusal
abbrev pub status_of : Refusal → ℕ
status_of Words = 2
status_of (TooLong file) = 7
status_of (Unplanned cause) = status_of_plan cause
status_of (Line file kind line) = 6
status_of Lines = 7
status_of Cycles = 7
status_of (Image place) = 1
status_of (Code number place) = 1
status_of Large = 7
status_of (Trace number line) = 6
status_of LongTrace = 7
status_of (State number place) = 6
status_of LongState = 7
status_of (Busy agent) = 9

-- What a file is called
abbrev pub file_name : File → List ℕ
file_name Program = codes "program"
file_name ImageFile = codes "image"
file_name Inputs = codes "inputs"
file_name Script = codes "script"
file_name TraceFile = codes "trace"
file_name StateFile = codes "state"

-- The line of a file that has too many bytes, or would have them
abbrev pub long_line : File → List ℕ
long_line file = limit_line (file_name file) limit.FILE_BYTES

-- The line of each refusal
abbrev pub line_of : Refusal → List ℕ
line_of Words = words_line
line_of (TooLong file) = long_line file
line_of (Unplanned cause) = line_of_plan cause
line_of (Line file kind line) = refused_line (file_name file) (line_number kind) (Some line)
line_of Lines = limit_line (codes "lines") limit.LINES
line_of Cycles = limit_line (codes "run") limit.RUN
line_of (Image place) = refused_image_line place
line_of (Code number place) = refused_line (codes "verify") number (Some place)
line_of (Trace number line) = refused_line (codes "trace") number (Some line)
line_of Large = long_line ImageFile
line_of LongTrace = long_line TraceFile
line_of (State number place) = refused_line (codes "state") number (Some place)
line_of LongState = long_line StateFile
line_of (Busy agent) = busy_line agent

-- Why a command stops at the text of a file
abbrev pub stop_by : File → TextFault → Stop
stop_by file (text.Line kind line) = stop.Refused (Line file kind line)
stop_by file text.Lines = stop.Refused Lines
stop_by file text.Memory = stop.Memory

-- Why a command stops where the plan's steps do
abbrev pub stop_of : PlanStop → Stop
stop_of (plan.Refused cause) = stop.Refused (Unplanned cause)
stop_of plan.Memory = stop.Memory
