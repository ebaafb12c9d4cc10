-- The defined answer: the status and the text that belong to the words and to the files that are told.
use Rattle.std.specs.Prelude.{◌≡◌, ◌⊎◌, ℕ, false, List, [], ◌∷◌, ◌++◌, Option}
use Rattle.psy_door.specs.Files.{Files}
use Rattle.psy_export.specs.Refusals.{broken_line, many_line}
use Rattle.psy_export.specs.Exports.{Exports}
use Rattle.psy_export.specs.declared.forms.Format.{Format}
use Rattle.psy_export.specs.declared.forms.Format.TheVariants as format
use Rattle.psy_view.specs.Asked.{File, Request, Table, Dump, Asks, AskForText, AskNothing, files_of, of_run}
use Rattle.psy_view.specs.Fetching.{AreTexts, ComeTo, IsLong}
use Rattle.psy_log.specs.Forms.{words_line}
use Rattle.psy_notes.specs.Stands.{run_begins}
use Rattle.psy_notes.specs.Texts.{BreaksAt}
use Rattle.psy_passes.specs.Outcomes.{IsFileText, IsMany}
use Rattle.psy_passes.specs.Runs.{IsRun}
use Rattle.psy_words.specs.Faults.{words_told}
use Rattle.psy_view.specs.Refusals.{long_line}
use Rattle.psy_view.specs.Views.{IsTimeline, ViewOf}

-- What stands behind the line that refuses words: what is wrong with them; or nothing, where memory ran out
abbrev pub IsToldBehind : List (List ℕ) → List ℕ → Type 0
IsToldBehind words more = (more ≡ words_told words) ⊎ (more ≡ [])

-- The request is for the run in the file of this name in that format.
pub data IsExport : Request → List ℕ → Format → Type 0 where
  as_table : (name : List ℕ) → IsExport (Table name) name format.Table
  as_dump : (name : List ℕ) → IsExport (Dump name) name format.Dump

-- It is for no run in another form.
abbrev pub IsUnexported : Request → Type 0
IsUnexported request = (name : List ℕ) (to : Format) → IsExport request name to → ⊥

-- The file of this name isn't a run, and what is told of that: it isn't what `psyc run` writes, or it has too many lines
pub data IsNoRunIn (files : Option Files) (name : List ℕ) : List ℕ → Type 0 where
  breaks : (bytes : List ℕ) (line : ℕ) → IsFileText files name bytes → BreaksAt run_begins bytes line → IsNoRunIn files name (broken_line name line)
  has_many : (bytes : List ℕ) → IsFileText files name bytes → IsMany bytes → IsNoRunIn files name (many_line name)

-- What is told where a picture is asked for of a run in a file longer than is read together, by the texts of the files behind it
abbrev pub IsLongTimeline : Option Files → Request → List (List ℕ) → ℕ → List ℕ → Type 0
IsLongTimeline files request texts status text = IsTimeline (IsRun files) (IsNoRunIn files) request texts status text

-- The status and the text that answer the words: help or the version; or those of the view of the files that they name, where files are
-- told, unless one of them has more bytes than it may have; a run that is drawn, or in another form, may have any number
pub data Answers (words : List (List ℕ)) (files : Option Files) : ℕ → List ℕ → Type 0 where
  no_words : (more : List ℕ) → AskNothing words → IsToldBehind words more → Answers words files 2 (words_line ++ more)
  of_itself : (text : List ℕ) → AskForText words text → Answers words files 0 text
  viewed : (request : Request) (texts : List (List ℕ)) (status : ℕ) (text : List ℕ) → Asks words request
      → AreTexts files (files_of request) texts → ViewOf request texts status text → Answers words files status text
  too_long : (request : Request) (file : File) → Asks words request → ComeTo files (files_of request) file → file.in_pieces ≡ false → IsLong files file
      → Answers words files 1 (long_line file.name file.most)
  exported : (request : Request) (name : List ℕ) (to : Format) (status : ℕ) (text : List ℕ) → Asks words request → IsExport request name to
      → IsLong files (of_run name) → Exports files name to status text → Answers words files status text
  filmed : (request : Request) (name : List ℕ) (others : List File) (texts : List (List ℕ)) (status : ℕ) (text : List ℕ) → Asks words request
      → files_of request ≡ of_run name ∷ others → IsLong files (of_run name) → AreTexts files others texts → IsLongTimeline files request texts status text
      → Answers words files status text
