-- What is written of the run in a file.
use Rattle.std.specs.Prelude.{◌≡◌, ◌⊎◌, ℕ, List, [], ◌++◌, Some, Option}
use Rattle.psy_door.specs.Files.{Files}
use Rattle.psy_log.specs.declared.note.Note.{Note}
use Rattle.psy_notes.specs.Stands.{run_begins}
use Rattle.psy_notes.specs.Texts.{BreaksAt, IsText, text_of}
use Rattle.psy_passes.specs.Listing.{first_unlisted}
use Rattle.psy_passes.specs.Logs.{IsLog}
use Rattle.psy_passes.specs.Outcomes.{IsFileText, IsMany}
use Rattle.psy_passes.specs.Runs.{IsRun}
use Rattle.psy_table.specs.Rows.{csv_of}
use Rattle.psy_table.specs.Streams.{TableFront}
use Rattle.psy_wave.specs.Changes.{vcd_of}
use Rattle.psy_wave.specs.Streams.{DumpFront}
use Rattle.psy_export.specs.declared.forms.Format.{Format}
use Rattle.psy_export.specs.declared.forms.Format.TheVariants as format
use Rattle.psy_export.specs.Refusals.{broken_line, many_line, unlisted_line}

-- The text that a log has in a format
abbrev pub export_of : Format → List Note → List ℕ
export_of format.Table notes = csv_of notes
export_of format.Dump notes = vcd_of notes

-- The status and the text that answer: those of the log in the file of this name, where files are told, however long it is; or why it is none
pub data Exports (files : Option Files) (name : List ℕ) (to : Format) : ℕ → List ℕ → Type 0 where
  of_log : (bytes : List ℕ) (notes : List Note) → IsFileText files name bytes → IsLog bytes notes → Exports files name to 0 (export_of to notes)
  no_run : (bytes : List ℕ) (line : ℕ) → IsFileText files name bytes → BreaksAt run_begins bytes line → Exports files name to 1 (broken_line name line)
  has_unlisted : (bytes : List ℕ) (notes : List Note) (line : ℕ) → IsFileText files name bytes → IsText run_begins bytes notes
      → first_unlisted notes ≡ Some line → Exports files name to 1 (unlisted_line name line)
  has_many : (bytes : List ℕ) → IsFileText files name bytes → IsMany bytes → Exports files name to 1 (many_line name)

-- Nothing; or a front of the text that the log in the file of this name has in a format
abbrev pub IsFrontOfExport : Format → Files → List ℕ → List ℕ → Type 0
IsFrontOfExport to files name text =
    (text ≡ []) ⊎ ((notes : List Note) × IsRun (Some files) name notes × IsLog (text_of notes) notes × (after : List ℕ) × (export_of to notes ≡ text ++ after))

-- A text of which a front was written where a log couldn't be written to its end: nothing, or a front of what a format makes of a run, under the names of
-- the run as it was read before
abbrev pub IsExportFront : Format → Option Files → List ℕ → List ℕ → Type 0
IsExportFront format.Table files name text = TableFront files name text
IsExportFront format.Dump files name text = DumpFront files name text
