-- What comes of a pass.
use Rattle.std.specs.Prelude.{◌≡◌, ◌≢◌, ℕ, List, [], ◌++◌, Option, length}
use Rattle.psy_door.specs.Files.{Files, WhereTold, bytes_under}
use Rattle.psy_log.specs.declared.note.Note.{Note}
use Rattle.psy_notes.specs.declared.stand.Stand.{Stand}
use Rattle.psy_notes.specs.Stands.{run_begins}
use Rattle.psy_notes.specs.Texts.{Leads, text_of}
use Rattle.psy_passes.specs.Logs.{IsLog}
use Rattle.psy_passes.specs.declared.reading.TheConstants.{LINES}
use Rattle.psy_passes.specs.Runs.{IsRun}
use Rattle.psy_passes.specs.declared.scan_fault.ScanFault.{ScanFault}
use Rattle.psy_passes.specs.declared.scan_fault.ScanFault.TheVariants as scan
use Rattle.psy_passes.specs.declared.fault.PassFault.{PassFault}
use Rattle.psy_passes.specs.declared.fault.PassFault.TheVariants as fault

-- The file of this name has these bytes, where files are told.
abbrev pub IsFileText : Option Files → List ℕ → List ℕ → Type 0
IsFileText files name bytes = WhereTold files (λ held. bytes_under held name ≡ bytes)

-- The text has more lines than a run may have: so many are in form, and there is more.
pub record IsMany (text : List ℕ) : Type 0 where
  pub notes : List Note
  pub last : Stand
  pub rest : List ℕ
  pub leads : Leads run_begins notes last
  pub cut : text ≡ text_of notes ++ rest
  pub count : length notes ≡ LINES
  pub more : rest ≢ []

-- What is written of the notes of a run, under the names of the run as it was read before, begins with this text: whatever notes come behind those that
-- were told.
pub record Begins (files : Option Files) (name : List ℕ) (under : List Note → List Note → List ℕ) (text : List ℕ) : Type 0 where
  pub before : List Note
  pub run : IsRun files name before
  pub log : IsLog (text_of before) before
  pub notes : List Note
  pub last : Stand
  pub rest : List ℕ
  pub leads : Leads run_begins notes last
  pub read : IsFileText files name (text_of notes ++ rest)
  pub goes_on : (more : List Note) → (after : List ℕ) × (under before (notes ++ more) ≡ text ++ after)

-- What a fault of a file is that was read to its end before: where it isn't as it was, it changed
abbrev pub since : ScanFault → PassFault
since scan.Unread = fault.Unread
since scan.Unwritten = fault.Unwritten
since scan.Memory = fault.Memory
since other = fault.Changed

-- What may come of the first pass, other than its end
abbrev pub IsOfForm : PassFault → Type 0
IsOfForm (fault.Line line) = Unit {0}
IsOfForm fault.Many = Unit {0}
IsOfForm fault.Unread = Unit {0}
IsOfForm fault.Memory = Unit {0}
IsOfForm other = ⊥

-- Of a text in memory
abbrev pub IsOfText : PassFault → Type 0
IsOfText (fault.Line line) = Unit {0}
IsOfText (fault.Unlisted line) = Unit {0}
IsOfText fault.Many = Unit {0}
IsOfText fault.Memory = Unit {0}
IsOfText other = ⊥

-- Of the pass for names
abbrev pub IsOfNames : PassFault → Type 0
IsOfNames (fault.Unlisted line) = Unit {0}
IsOfNames fault.Changed = Unit {0}
IsOfNames fault.Unread = Unit {0}
IsOfNames fault.Memory = Unit {0}
IsOfNames other = ⊥

-- Of the last pass
abbrev pub IsOfTelling : PassFault → Type 0
IsOfTelling fault.Changed = Unit {0}
IsOfTelling fault.Unread = Unit {0}
IsOfTelling fault.Unwritten = Unit {0}
IsOfTelling fault.Memory = Unit {0}
IsOfTelling other = ⊥
