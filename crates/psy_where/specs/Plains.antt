-- What the lines of psyc say that tell no place and have no number of their own, and what each means.
use Rattle.std.specs.Prelude.{◌++◌, ◌≡◌, ℕ, if◌then◌else◌, List, codes, bytes_eq, Option, None, Some, option_map}
use Rattle.psy_log.specs.declared.form.Form.{Form}
use Rattle.psy_log.specs.declared.form.Form.TheVariants as form
use Rattle.psy_log.specs.declared.note.Note.{Note}
use Rattle.psy_log.specs.Forms.{says}
use Rattle.psy_log.specs.Table.{Said}
use Rattle.psy_notes.specs.Reading.{long_at, name_at, short_at}
use Rattle.psy_where.specs.Broken.{broken_of, broken_sentence}
use Rattle.psy_where.specs.Unsound.{unsound_of, unsound_sentence}
use Rattle.psy_where.specs.Untrue.{untrue_of, untrue_sentence}
use Rattle.psy_where.specs.declared.limit.Limit.{Limit}
use Rattle.psy_where.specs.declared.plain.Plain.{Plain}
use Rattle.psy_where.specs.declared.plain.Plain.TheVariants.{Words, ReadProgram, ReadImage, ReadInputs, ReadScript}
use Rattle.psy_where.specs.declared.plain.Plain.TheVariants.{ReadTrace, ReadState, Passed, BadImage, Unverified, Untrue, Unsound, Busy}
use Rattle.psy_where.specs.Limits.{limit_of, limit_sentence}
use Rattle.psy_where.specs.Notes.{IsNoteOf}

-- The file that can't be read, by its role
abbrev pub unread_of : List ℕ → Option Plain
unread_of file =
    if bytes_eq file (codes "program") then Some ReadProgram
    else if bytes_eq file (codes "image") then Some ReadImage
    else if bytes_eq file (codes "inputs") then Some ReadInputs
    else if bytes_eq file (codes "script") then Some ReadScript
    else if bytes_eq file (codes "trace") then Some ReadTrace
    else if bytes_eq file (codes "state") then Some ReadState
    else None

-- That a limit is passed, where it is one
abbrev pub passed : Option Limit → Option Plain
passed None = None
passed (Some limit) = Some (Passed limit)

-- That the code of an image breaks a rule, or a trace or a state has a fault, of whatever is refused by a number and a place
abbrev pub refused_of : List ℕ → ℕ → Option Plain
refused_of what number =
    if bytes_eq what (codes "verify") then option_map Unverified (broken_of number)
    else if bytes_eq what (codes "trace") then option_map Untrue (untrue_of number)
    else if bytes_eq what (codes "state") then option_map Unsound (unsound_of number)
    else None

-- That bytes are no image, of whatever is refused by a place alone
abbrev pub unspelled_of : List ℕ → Option Plain
unspelled_of what = if bytes_eq what (codes "image") then Some BadImage else None

-- What is said in a line of this form, where it tells no place and has no number of its own
abbrev pub plain_in : Form → List Said → Option Plain
plain_in form.Words said = Some Words
plain_in form.Read said = unread_of (name_at said 0)
plain_in form.Limit said = passed (limit_of (name_at said 0) (long_at said 1))
plain_in form.RefusedImage said = Some BadImage
plain_in form.Refused said = unspelled_of (name_at said 0)
plain_in form.RefusedAt said = refused_of (name_at said 0) (short_at said 1)
plain_in form.Busy said = Some Busy
plain_in _ said = None

-- The line says this.
abbrev pub IsPlain : List ℕ → Plain → Type 0
IsPlain line plain = (note : Note) × IsNoteOf line note × (plain_in (says note).0 (says note).1 ≡ Some plain)

-- What it means
abbrev pub plain_sentence : Plain → List ℕ
plain_sentence Words =
    codes "psyc has, with UNTIL up to a million, `run PROGRAM UNTIL [INPUTS [SCRIPT]]`, `check PROGRAM UNTIL`, `graph PROGRAM`, "
    ++ (codes "`make SEED`, `trial SEED UNTIL`, `build PROGRAM`, `exec IMAGE UNTIL [INPUTS [SCRIPT]]`, `trace PROGRAM UNTIL [INPUTS [SCRIPT]]`, "
    ++ codes "`audit PROGRAM UNTIL TRACE [SCRIPT]`, `save PROGRAM DATE [INPUTS [SCRIPT]]` and `resume PROGRAM STATE UNTIL [INPUTS [SCRIPT]]`")
plain_sentence ReadProgram = codes "psyc couldn't read the program: look whether a file of this name is there, is no folder, and may be read by you"
plain_sentence ReadImage = codes "psyc couldn't read the image: look whether a file of this name is there, is no folder, and may be read by you"
plain_sentence ReadInputs = codes "psyc couldn't read the inputs: look whether a file of this name is there, is no folder, and may be read by you"
plain_sentence ReadScript = codes "psyc couldn't read the script: look whether a file of this name is there, is no folder, and may be read by you"
plain_sentence ReadTrace = codes "psyc couldn't read the trace: look whether a file of this name is there, is no folder, and may be read by you"
plain_sentence ReadState = codes "psyc couldn't read the state: look whether a file of this name is there, is no folder, and may be read by you"
plain_sentence (Passed limit) = limit_sentence limit
plain_sentence BadImage =
    codes "the bytes are no image: the field that begins at this byte is missing, cut or out of its range, or a byte stands behind the last field"
plain_sentence (Unverified broken) = broken_sentence broken
plain_sentence (Untrue untrue) = untrue_sentence untrue
plain_sentence (Unsound unsound) = unsound_sentence unsound
plain_sentence Busy =
    codes "this agent is in the middle of an action at that date, so no state can be taken there: each one that isn't silent has to start an action then, "
    ++ codes "or not to have begun; a later date may do"
