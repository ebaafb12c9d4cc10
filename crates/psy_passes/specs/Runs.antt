-- Runs that are read piece by piece.
use Rattle.std.specs.Prelude.{◌≡◌, ◌≢◌, ℕ, ◌+◌, ◌≤◌, List, [], ◌++◌, Option, flat_map, length}
use Rattle.psy_door.specs.Files.{Files, WhereTold, bytes_under}
use Rattle.psy_door.specs.Growth.{GrewByFront}
use Rattle.psy_log.specs.declared.note.Note.{Note}
use Rattle.psy_log.specs.declared.note.Note.TheVariants as note
use Rattle.psy_log.specs.Forms.{line_of}
use Rattle.psy_notes.specs.declared.stand.Stand.{Stand}
use Rattle.psy_notes.specs.Stands.{run_begins}
use Rattle.psy_notes.specs.Texts.{CannotGoOn, IsText, Leads, Steps, text_of}
use Rattle.psy_passes.specs.declared.scan_fault.ScanFault.{ScanFault}
use Rattle.psy_passes.specs.declared.scan_fault.ScanFault.TheVariants as fault
use Rattle.psy_passes.specs.declared.reading.TheConstants.{LINES}
use Rattle.psy_passes.specs.Telling.{Told}

-- The line of the end, or of the summary; nothing for a dated note
abbrev pub tail_line : Note → List ℕ
tail_line (note.StopOverrun date agent) = []
tail_line (note.StopTrap date agent kind) = []
tail_line (note.Value date variable value) = []
tail_line (note.Message date stream value) = []
tail_line other = line_of other

-- The lines of a run's end and summary
abbrev pub tail_of : List Note → List ℕ
tail_of notes = flat_map tail_line notes

-- The file of this name, where files are told, is the lines of these notes, which `psyc run` may have written, and there are no more of them than may be.
pub record IsRun (files : Option Files) (name : List ℕ) (notes : List Note) : Type 0 where
  pub read : IsText run_begins (text_of notes) notes
  pub few : length notes ≤ LINES
  pub told : WhereTold files (λ held. bytes_under held name ≡ text_of notes)

-- Why nothing more is read behind these notes: the next line isn't in form, there are more than may be, or nothing is told of the next note
abbrev pub Stops : {T : Type 0} → (T → Note → Type 0) → List Note → Stand → List ℕ → T → ScanFault → Type 0
Stops refuses notes last rest now (fault.Line line) = CannotGoOn last rest × (line ≡ length notes + 1)
Stops refuses notes last rest now fault.Many = (length notes ≡ LINES) × (rest ≢ [])
Stops refuses notes last rest now (fault.Refused line) =
    (note : Note) × (to : Stand) × (more : List ℕ) × Steps last note to × (rest ≡ line_of note ++ more) × refuses now note × (line ≡ length notes + 1)
Stops refuses notes last rest now other = Unit {0}

-- A text was read up to a fault: its front is the lines of these notes, of which this text was told, and a front of that was written.
pub record Halts {T : Type 0} (tells : T → Note → List ℕ → T → Type 0) (refuses : T → Note → Type 0) (old : T) (held now_held : Option (List ℕ))
    (whole : List ℕ) (why : ScanFault) : Type 0 where
  pub notes : List Note
  pub last : Stand
  pub rest : List ℕ
  pub text : List ℕ
  pub now : T
  pub leads : Leads run_begins notes last
  pub cut : whole ≡ text_of notes ++ rest
  pub tells_so : Told tells old notes text now
  pub stops : Stops refuses notes last rest now why
  pub written : GrewByFront held now_held text

-- The file couldn't be read, or memory ran out.
abbrev pub IsOutside : ScanFault → Type 0
IsOutside fault.Unread = Unit {0}
IsOutside fault.Memory = Unit {0}
IsOutside other = ⊥
