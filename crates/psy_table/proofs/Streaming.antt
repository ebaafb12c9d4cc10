-- The rows that are told of notes one by one are those of the table.
use Rattle.std.proofs.Common.{◌≡◌, ◌∙◌, ◌⊎◌, inl, inr, refl, sym, ap, subst, ℕ, true, false, List, [], ◌∷◌, ◌++◌, Option, None, Some, append_assoc, append-nil}
use Rattle.std.specs.Prelude.{Bool, decimal, codes}
use Rattle.std.proofs.lemmas.Bool.{false≢true}
use Rattle.psy_door.specs.Files.{Files}
use Rattle.psy_door.specs.Growth.{Grew, GrewByFront}
use Rattle.psy_log.specs.declared.note.Note.{Note}
use Rattle.psy_log.specs.declared.note.Note.TheVariants as note
use Rattle.psy_notes.specs.declared.stand.Stand.{Stand}
use Rattle.psy_notes.specs.declared.stand.Stand.TheVariants as stand
use Rattle.psy_notes.specs.Stands.{may_be_dated, may_end, next_stand, run_begins, where_so}
use Rattle.psy_notes.specs.Texts.{IsText, Leads, Steps, text_of}
use Rattle.psy_passes.specs.declared.listed.Listed.{Listed}
use Rattle.psy_passes.specs.Logs.{IsLog}
use Rattle.psy_passes.specs.Runs.{IsRun, tail_of}
use Rattle.psy_passes.specs.Telling.{Told, told_nothing, told_more}
use Rattle.psy_passes.proofs.lemmas.Growth.{front_behind, grew_more}
use Rattle.psy_passes.specs.NameChecks.{AreNamesOf}
use Rattle.psy_passes.specs.Outcomes.{IsFileText}
use Rattle.psy_table.specs.declared.rows.RowTeller.{RowTeller}
use Rattle.psy_table.specs.declared.table.Table.{Table}
use Rattle.psy_table.specs.Cells.{messages_text, value_text}
use Rattle.psy_table.specs.CellsState.{CellsState, cells_of}
use Rattle.psy_table.specs.Fields.{fields}
use Rattle.psy_table.specs.Rows.{Columns, columns_of, csv_of, date_of, heading, last_of, row_of, row_text, rows, today_of}
use Rattle.psy_table.specs.Stands.{TableStands, columns_in, row_in}
use Rattle.psy_table.specs.Streams.{TableFront, TellsRow, ended_before, ended_row}

-- ---- rows of cells

-- The row of what stands in a table is that of what the table stands for.
pub row_stands : (columns : Columns) (told today : List Note) (table : Table) (date : ℕ) → TableStands columns told today table
    → row_in table date ≡ row_text columns date told today
row_stands columns told today table date stands =
    let row : CellsState → CellsState → CellsState → List ℕ = λ v s a. decimal date ++ fields v.texts ++ fields s.texts ++ fields a.texts ++ codes "\r\n" in
    ap (λ v. row v table.streams table.agents) stands.variables
    ∙ ap (λ s. row (cells_of (value_text told) columns.variables) s table.agents) stands.streams
    ∙ ap (λ a. row (cells_of (value_text told) columns.variables) (cells_of (messages_text today) columns.streams) a) stands.agents

ended_stands : (columns : Columns) (told today : List Note) (table : Table) (ended : Option ℕ) → TableStands columns told today table
    → ended_row table ended ≡ row_of columns ended told today
ended_stands columns told today table None stands = refl
ended_stands columns told today table (Some date) stands = row_stands columns told today table date stands

-- ---- rows of notes

-- The rows of what comes behind notes that were told, the last of them of this date
abbrev behind : Columns → List Note → List Note → Option ℕ → List Note → List ℕ
behind columns told today latest more = row_of columns (last_of latest more) told today ++ rows columns told (today_of (last_of latest more) today) more

-- Which date ends is told by the next note alone.
ends_there : (latest : Option ℕ) (n : Note) (more : List Note) → last_of latest (n ∷ more) ≡ ended_before latest n
ends_there None n more = refl
ends_there (Some date) n more = refl

-- What was told goes on to the rows, whatever notes come behind.
abbrev pub GoesOn : Columns → List Note → List ℕ → RowTeller → Type 0
GoesOn columns notes text now =
    (told : List Note) × (today : List Note) × TableStands columns told today now.table
    × ((more : List Note) → rows columns [] [] (notes ++ more) ≡ text ++ behind columns told today now.latest more)

one_more : (columns : Columns) (told today : List Note) (now : RowTeller) (n : Note) (piece text : List ℕ) (next : RowTeller) (more : List Note) (whole : List ℕ)
    → TableStands columns told today now.table → TellsRow now n piece next → whole ≡ text ++ behind columns told today now.latest (n ∷ more)
    → whole ≡ (text ++ piece) ++ behind columns (n ∷ told) (n ∷ today_of (ended_before now.latest n) today) next.latest more
one_more columns told today now n piece text next more whole stands tells is =
    let after : Option ℕ → List ℕ = λ latest. behind columns (n ∷ told) (n ∷ today_of (ended_before now.latest n) today) latest more in
    let ended_by : Option ℕ → List ℕ = λ ended. row_of columns ended told today ++ rows columns told (today_of ended today) (n ∷ more) in
    let row : piece ≡ row_of columns (ended_before now.latest n) told today = tells.row ∙ ended_stands columns told today now.table (ended_before now.latest n) stands in
    is ∙ ap (λ e. text ++ ended_by e) (ends_there now.latest n more) ∙ ap (λ p. text ++ (p ++ after (date_of n))) (sym row)
    ∙ sym (append_assoc text piece (after (date_of n))) ∙ ap (λ latest. (text ++ piece) ++ after latest) (sym tells.latest)

pub rows_told : (columns : Columns) (old : RowTeller) (notes : List Note) (text : List ℕ) (now : RowTeller) → Told TellsRow old notes text now → old.latest ≡ None
    → TableStands columns [] [] old.table → GoesOn columns notes text now
rows_told columns old _ _ _ told_nothing none stands = ([], [], stands, λ more. ap (λ latest. behind columns [] [] latest more) (sym none))
rows_told columns old _ _ _ (told_more notes text now n piece next before tells) none stands =
    let so_far = rows_told columns old notes text now before none stands in (
      n ∷ so_far.0,
      n ∷ today_of (ended_before now.latest n) so_far.1,
      tells.stands columns so_far.0 so_far.1 so_far.2,
      λ more.
          one_more columns so_far.0 so_far.1 now n piece text next more (rows columns [] [] ((notes ++ n ∷ []) ++ more)) so_far.2 tells
          (ap (rows columns [] []) (append_assoc notes (n ∷ []) more) ∙ so_far.3 (n ∷ more)),
    )

-- ---- where a run ends

Leads-last : (from : Stand) (notes : List Note) (n : Note) (to : Stand) → Leads from (notes ++ n ∷ []) to → (between : Stand) × Steps between n to
Leads-last from [] n to leads = (from, subst (Steps from n) leads.2 leads.1)
Leads-last from (first ∷ notes) n to leads = Leads-last leads.0 notes n to leads.2

is_some : {X : Type 0} → Option X → Bool
is_some None = false
is_some (Some x) = true

none_some : {X : Type 0} {A : Type 0} (x : X) → ◌≡◌ {A = Option X} None (Some x) → A
unfolding is_some
none_some x e = absurd (false≢true (ap is_some e))

-- A text may end in a stand, where there is one.
abbrev ends_in : Option Stand → Bool
ends_in None = false
ends_in (Some to) = may_end to

dated_open : (b : Bool) (date : ℕ) → ends_in (where_so b (stand.Dated date)) ≡ false
dated_open true date = refl
dated_open false date = refl

undated_end : (between : Stand) (n : Note) → (ends_in (next_stand between n) ≡ false) ⊎ (date_of n ≡ None)
undated_end (stand.Dated last) (note.StopOverrun date agent) = inl (dated_open (may_be_dated last date) date)
undated_end (stand.Dated last) (note.StopTrap date agent kind) = inl (dated_open (may_be_dated last date) date)
undated_end (stand.Dated last) (note.Value date variable value) = inl (dated_open (may_be_dated last date) date)
undated_end (stand.Dated last) (note.Message date stream value) = inl (dated_open (may_be_dated last date) date)
undated_end (stand.Agents agents) (note.StopOverrun date agent) = inl refl
undated_end (stand.Agents agents) (note.StopTrap date agent kind) = inl refl
undated_end (stand.Agents agents) (note.Value date variable value) = inl refl
undated_end (stand.Agents agents) (note.Message date stream value) = inl refl
undated_end (stand.Variables variables) (note.StopOverrun date agent) = inl refl
undated_end (stand.Variables variables) (note.StopTrap date agent kind) = inl refl
undated_end (stand.Variables variables) (note.Value date variable value) = inl refl
undated_end (stand.Variables variables) (note.Message date stream value) = inl refl
undated_end (stand.Streams streams) (note.StopOverrun date agent) = inl refl
undated_end (stand.Streams streams) (note.StopTrap date agent kind) = inl refl
undated_end (stand.Streams streams) (note.Value date variable value) = inl refl
undated_end (stand.Streams streams) (note.Message date stream value) = inl refl
undated_end (stand.Graphs agents nodes told edges) (note.StopOverrun date agent) = inl refl
undated_end (stand.Graphs agents nodes told edges) (note.StopTrap date agent kind) = inl refl
undated_end (stand.Graphs agents nodes told edges) (note.Value date variable value) = inl refl
undated_end (stand.Graphs agents nodes told edges) (note.Message date stream value) = inl refl
undated_end between n = inr refl

-- Behind a whole run no date is latest.
pub closed : (old : RowTeller) (notes : List Note) (text : List ℕ) (now : RowTeller) (whole : List ℕ) → Told TellsRow old notes text now → old.latest ≡ None
    → IsText run_begins whole notes → now.latest ≡ None
closed old _ _ _ whole told_nothing none read = none
closed old _ _ _ whole (told_more notes text now n piece next before tells) none read =
    let step = Leads-last run_begins notes n read.last read.leads in
    tells.latest ∙ by step.0 (undated_end step.0 n) step.1.1
  where
    by : (between : Stand) → (ends_in (next_stand between n) ≡ false) ⊎ (date_of n ≡ None) → next_stand between n ≡ Some read.last → date_of n ≡ None
    by between (inr undated) next = undated
    by between (inl latest) next = absurd (false≢true (sym (ap ends_in (sym next) ∙ latest) ∙ read.ends))

-- All rows were told of a whole run.
pub all_told : (columns : Columns) (old : RowTeller) (notes : List Note) (text : List ℕ) (now : RowTeller) (whole : List ℕ) → Told TellsRow old notes text now
    → old.latest ≡ None → TableStands columns [] [] old.table → IsText run_begins whole notes → text ≡ rows columns [] [] notes
all_told columns old notes text now whole told none stands read =
    let so_far = rows_told columns old notes text now told none stands in
    let over = closed old notes text now whole told none read in
    let rest : behind columns so_far.0 so_far.1 now.latest [] ≡ [] = ap (λ latest. behind columns so_far.0 so_far.1 latest []) over in
    sym (ap (rows columns [] []) (sym (append-nil notes)) ∙ so_far.3 [] ∙ ap (λ t. text ++ t) rest ∙ append-nil text)

-- ---- what is written

-- The columns of the names of a summary are those of the run.
pub columns_same : (listed : Listed) (tail : List ℕ) (notes : List Note) → AreNamesOf listed tail → IsText run_begins (text_of notes) notes → tail ≡ tail_of notes
    → columns_in listed ≡ columns_of notes
columns_same listed tail notes names read is =
    let those = names notes read is in λ i. record { variables = those.1 i; streams = those.2 i; agents = those.0 i }

-- Heading and rows of a whole log are its table.
pub table_written : (files : Option Files) (name tail : List ℕ) (listed : Listed) (old : RowTeller) (a b c : Option (List ℕ)) (first : List ℕ) (now : RowTeller)
    → AreNamesOf listed tail → TableStands (columns_in listed) [] [] old.table → old.latest ≡ None → first ≡ heading (columns_in listed) → Grew a b first
    → ((notes : List Note) × (text : List ℕ) × IsRun files name notes × IsLog (text_of notes) notes × (tail_of notes ≡ tail) × Told TellsRow old notes text now
    × Grew b c text)
    → (notes : List Note) × IsRun files name notes × IsLog (text_of notes) notes × Grew a c (csv_of notes)
table_written files name tail listed old a b c first now names stands none is head done =
    let columns = columns_same listed tail done.0 names done.2.read (sym done.4) in
    let body = all_told (columns_in listed) old done.0 done.1 now (text_of done.0) done.5 none stands done.2.read in
    let whole : first ++ done.1 ≡ csv_of done.0 =
    ap (λ t. t ++ done.1) is ∙ ap (λ t. heading (columns_in listed) ++ t) body ∙ ap (λ cs. heading cs ++ rows cs [] [] done.0) columns in
    (done.0, done.2, done.3, subst (Grew a c) whole (grew_more a b c first done.1 head done.6))

-- Heading and rows of a front of a run are a front of a table.
pub table_begun : (files : Option Files) (name tail : List ℕ) (listed : Listed) (old : RowTeller) (a b c : Option (List ℕ)) (first : List ℕ)
    → AreNamesOf listed tail → TableStands (columns_in listed) [] [] old.table → old.latest ≡ None → first ≡ heading (columns_in listed) → Grew a b first
    → ((notes : List Note) × IsRun files name notes × IsLog (text_of notes) notes × (tail ≡ tail_of notes))
    → ((notes : List Note) × (last : Stand) × (rest : List ℕ) × (text : List ℕ) × (now : RowTeller) × Leads run_begins notes last
    × IsFileText files name (text_of notes ++ rest) × Told TellsRow old notes text now × GrewByFront b c text)
    → (text : List ℕ) × TableFront files name text × GrewByFront a c text
table_begun files name tail listed old a b c first names stands none is head run begun =
    let columns = columns_same listed tail run.0 names run.1.read run.3 in
    let so_far = rows_told (columns_in listed) old begun.0 begun.3 begun.4 begun.7 none stands in (
      first ++ begun.3,
      inr
          (record {
            before = run.0;
            run = run.1;
            log = run.2;
            notes = begun.0;
            last = begun.1;
            rest = begun.2;
            leads = begun.5;
            read = begun.6;
            goes_on = λ more. (
              behind (columns_in listed) so_far.0 so_far.1 begun.4.latest more,
              ap (λ cs. heading cs ++ rows cs [] [] (begun.0 ++ more)) (sym columns) ∙ ap (λ t. heading (columns_in listed) ++ t) (so_far.3 more)
                  ∙ ap (λ t. t ++ (begun.3 ++ behind (columns_in listed) so_far.0 so_far.1 begun.4.latest more)) (sym is)
                  ∙ sym (append_assoc first begun.3 (behind (columns_in listed) so_far.0 so_far.1 begun.4.latest more)),
            );
          }),
      front_behind a b c first begun.3 head begun.8,
    )

-- A front of the heading is one too.
pub heading_begun : (files : Option Files) (name tail : List ℕ) (listed : Listed) (a b : Option (List ℕ)) (first : List ℕ) → AreNamesOf listed tail
    → first ≡ heading (columns_in listed) → GrewByFront a b first
    → ((notes : List Note) × IsRun files name notes × IsLog (text_of notes) notes × (tail ≡ tail_of notes))
    → (text : List ℕ) × TableFront files name text × GrewByFront a b text
heading_begun files name tail listed a b first names is front run =
    let columns = columns_same listed tail run.0 names run.1.read run.3 in (
      first,
      inr
          (record {
            before = run.0;
            run = run.1;
            log = run.2;
            notes = [];
            last = run_begins;
            rest = text_of run.0;
            leads = refl;
            read = run.1.told;
            goes_on = λ more. (
              rows (columns_of run.0) [] [] more,
              ap (λ cs. heading cs ++ rows (columns_of run.0) [] [] more) (sym columns) ∙ ap (λ t. t ++ rows (columns_of run.0) [] [] more) (sym is),
            );
          }),
      front,
    )
