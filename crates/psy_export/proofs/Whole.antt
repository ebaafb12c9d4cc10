-- What is written of a run in a file that is told is a front of the whole.
use Rattle.std.proofs.Common.{◌≡◌, ◌∙◌, sym, ap, ℕ, ◌≤◌, List, [], ◌++◌, length, map, Some, inl, inr}
use Rattle.std.proofs.lemmas.List.{map-append}
use Rattle.psy_door.specs.Files.{Files}
use Rattle.psy_log.specs.declared.note.Note.{Note}
use Rattle.psy_log.specs.Forms.{says}
use Rattle.psy_notes.specs.declared.stand.Stand.{Stand}
use Rattle.psy_notes.specs.Stands.{run_begins}
use Rattle.psy_notes.specs.Texts.{IsText, Leads, text_of}
use Rattle.psy_passes.specs.Listing.{agents_in, streams_in, variables_in}
use Rattle.psy_passes.specs.Logs.{IsLog}
use Rattle.psy_passes.specs.Outcomes.{Begins}
use Rattle.psy_passes.specs.Runs.{IsRun}
use Rattle.psy_table.specs.Rows.{columns_of, heading}
use Rattle.psy_table.specs.Streams.{csv_under}
use Rattle.psy_wave.specs.Heads.{head}
use Rattle.psy_wave.specs.Streams.{vcd_under}
use Rattle.psy_export.specs.declared.forms.Format.{Format}
use Rattle.psy_export.specs.declared.forms.Format.TheVariants as format
use Rattle.psy_export.specs.Exports.{IsExportFront, IsFrontOfExport}
use Rattle.psy_export.proofs.Told.{changes_are, changes_said, rows_are, rows_said}

same_table : (before notes others : List Note) → map says notes ≡ map says others → csv_under before notes ≡ csv_under before others
same_table before notes others same =
    ap (λ t. heading (columns_of before) ++ t)
    (rows_are (columns_of before) [] [] notes ∙ ap (rows_said (columns_of before) [] []) same ∙ sym (rows_are (columns_of before) [] [] others))

same_dump : (before notes others : List Note) → map says notes ≡ map says others → vcd_under before notes ≡ vcd_under before others
same_dump before notes others same =
    let variables = variables_in before in
    let streams = streams_in before in
    let agents = agents_in before in
    ap (λ t. head variables streams agents ++ t)
    (changes_are variables streams agents 0 notes ∙ ap (changes_said variables streams agents 0) same ∙ sym (changes_are variables streams agents 0 others))

-- A front of the lines of a text that is read otherwise says what the text's notes say there.
abbrev OneFront : Type 0
OneFront =
    (first : Stand) (text : List ℕ) (notes fronts : List Note) (mid : Stand) (rest : List ℕ) → IsText first text notes → Leads first fronts mid
    → text ≡ text_of fronts ++ rest
    → (more : List Note) × (rest ≡ text_of more) × (length more ≤ length rest) × (map says notes ≡ map says fronts ++ map says more)

begun : OneFront → (files : Files) (name : List ℕ) (under : List Note → List Note → List ℕ) (text : List ℕ)
    → ((before notes others : List Note) → map says notes ≡ map says others → under before notes ≡ under before others)
    → Begins (Some files) name under text
    → (notes : List Note) × IsRun (Some files) name notes × IsLog (text_of notes) notes × (after : List ℕ) × (under notes notes ≡ text ++ after)
begun one files name under text same begins =
    let found = one run_begins (text_of begins.before) begins.before begins.notes begins.last begins.rest begins.run.read begins.leads (sym begins.run.told ∙ begins.read) in
    let said : map says begins.before ≡ map says (begins.notes ++ found.0) = found.3 ∙ sym (map-append says begins.notes found.0) in
    let on = begins.goes_on found.0 in
    (begins.before, begins.run, begins.log, on.0, same begins.before begins.before (begins.notes ++ found.0) said ∙ on.1)

pub front_of_whole : OneFront → (to : Format) (files : Files) (name text : List ℕ) → IsExportFront to (Some files) name text → IsFrontOfExport to files name text
front_of_whole one format.Table files name text (inl none) = inl none
front_of_whole one format.Table files name text (inr begins) = inr (begun one files name csv_under text same_table begins)
front_of_whole one format.Dump files name text (inl none) = inl none
front_of_whole one format.Dump files name text (inr begins) = inr (begun one files name vcd_under text same_dump begins)
