-- A file that was read twice had two texts, where the second reading doesn't end as the first.
use Rattle.std.proofs.Common.{◌≡◌, ◌≢◌, ◌∙◌, refl, sym, ap, subst, ℕ, ◌+◌, ◌≤◌, false, not, List, [], ◌∷◌, ◌++◌, length, map, Option, None, Some, length-append, append_assoc, append-nil, arith}
use Rattle.std.specs.List.{position}
use Rattle.std.specs.Prelude.{IfOk, Result, Ok, Err}
use Rattle.std.proofs.lemmas.Bool.{false≢true}
use Rattle.std.proofs.lemmas.List.{length-map, map-append}
use Rattle.psy_base.specs.declared.memory.Memory.{Memory}
use Rattle.psy_lists.proofs.lemmas.Places.{none_left}
use Rattle.psy_door.specs.Files.{Files}
use Rattle.psy_log.specs.declared.note.Note.{Note}
use Rattle.psy_log.specs.Forms.{line_of, says}
use Rattle.psy_notes.specs.declared.stand.Stand.{Stand}
use Rattle.psy_notes.specs.Stands.{run_begins}
use Rattle.psy_notes.specs.Texts.{BreaksAt, IsText, Leads, Steps, text_of}
use Rattle.psy_passes.specs.declared.listed.Listed.{Listed}
use Rattle.psy_passes.specs.Listing.{agents_in, streams_in, variables_in}
use Rattle.psy_passes.specs.Tables.{is_among}
use Rattle.psy_passes.specs.declared.scan_fault.ScanFault.TheVariants as fault
use Rattle.psy_passes.specs.declared.reading.TheConstants.{LINES}
use Rattle.psy_passes.specs.Runs.{Halts, IsRun, tail_of}
use Rattle.psy_passes.proofs.lemmas.Notes.{Leads-more, text_of-more}
use Rattle.psy_passes.specs.NameChecks.{AreNamesOf, EndAs, IsTail, first_other, undated}
use Rattle.psy_passes.specs.Outcomes.{IsFileText, IsMany}
use Rattle.psy_passes.proofs.Firsts.{passes_where_none}
use Rattle.psy_passes.proofs.Sayings.{agents_same, among_by, among_step, other_by, streams_same, tails_same, undated_same, variables_same}
use Rattle.psy_passes.proofs.Tails.{names_undated, tail_is_text, undated_twice}

-- The laws of readings
abbrev pub NotBoth : Type 0
NotBoth = (first : Stand) (text : List ℕ) (notes : List Note) (line : ℕ) → IsText first text notes → BreaksAt first text line → ⊥

abbrev pub OneFront : Type 0
OneFront = (first : Stand) (text : List ℕ) (notes fronts : List Note) (mid : Stand) (rest : List ℕ) → IsText first text notes → Leads first fronts mid
    → text ≡ text_of fronts ++ rest
    → (more : List Note) × (rest ≡ text_of more) × (length more ≤ length rest) × (map says notes ≡ map says fronts ++ map says more)

-- Two readings of a whole text say the same.
both_whole : OneFront → (text : List ℕ) (notes others : List Note) → IsText run_begins text notes → IsText run_begins text others → map says notes ≡ map says others
both_whole front text notes others read also =
    let found = front run_begins text notes others also.last [] read also.leads (also.whole ∙ sym (append-nil (text_of others))) in
    let none : found.0 ≡ [] = none_left found.0 found.2 in
    found.3 ∙ ap (λ ns. map says others ++ map says ns) none ∙ append-nil (map says others)

-- Notes that were read from the lines of an end and a summary say what those say.
pub ends_as : OneFront → (tail : List ℕ) (log : List Note) → IsText run_begins tail log → EndAs log tail
ends_as front tail log read = λ notes whole is.
    let same = both_whole front (tail_of notes) log (undated notes) (subst (λ t. IsText run_begins t log) is read) (tail_is_text notes whole) in
    undated_same log (undated notes) same ∙ ap (map says) (undated_twice notes)

-- So their names are those of the summary.
pub names_of_end : (listed : Listed) (tail : List ℕ) (log : List Note) → EndAs log tail → listed.agents ≡ agents_in log
    → listed.variables ≡ variables_in log → listed.streams ≡ streams_in log → AreNamesOf listed tail
names_of_end listed tail log ends agents variables streams = λ notes whole is.
    let same = ends notes whole is in
    let own = names_undated log in
    let names = names_undated notes in (
      agents ∙ sym own.0 ∙ agents_same (undated log) (undated notes) same ∙ names.0,
      variables ∙ sym own.1 ∙ variables_same (undated log) (undated notes) same ∙ names.1,
      streams ∙ sym own.2 ∙ streams_same (undated log) (undated notes) same ∙ names.2,
    )

-- The same of the names that were found, unless memory ran out
pub names_found_in : (tail : List ℕ) (log now : List Note) (came : Result Listed Memory) → EndAs log tail → now ≡ log
    → IfOk came (λ listed. listed.agents ≡ agents_in now) → IfOk came (λ listed. listed.variables ≡ variables_in now)
    → IfOk came (λ listed. listed.streams ≡ streams_in now) → IfOk came (λ listed. AreNamesOf listed tail)
names_found_in tail log now (Ok listed) ends same agents variables streams =
    names_of_end listed tail log ends (agents ∙ ap agents_in same) (variables ∙ ap variables_in same) (streams ∙ ap streams_in same)
names_found_in tail log now (Err none) ends same agents variables streams = tt

-- The lines of an end and a summary are in form.
pub tail_in_form : NotBoth → (tail : List ℕ) (line : ℕ) → IsTail tail → BreaksAt run_begins tail line → ⊥
tail_in_form not_both tail line is breaks =
    not_both run_begins tail (undated is.0) line (subst (λ t. IsText run_begins t (undated is.0)) (sym is.2) (tail_is_text is.0 is.1)) breaks

-- A file that is told has one text.
untold : (files : Option Files) (name one other : List ℕ) → one ≢ other → IsFileText files name one → IsFileText files name other → files ≡ None
untold None name one other differ was is = refl
untold (Some held) name one other differ was is = absurd (differ (sym was ∙ is))

-- ---- where the second reading stops

pub breaks_of : {T : Type 0} (tells : T → Note → List ℕ → T → Type 0) (refuses : T → Note → Type 0) (old : T) (held now : Option (List ℕ)) (whole : List ℕ) (line : ℕ)
    → Halts tells refuses old held now whole (fault.Line line) → BreaksAt run_begins whole line
breaks_of tells refuses old held now whole line halts =
    record { notes = halts.notes; rest = halts.rest; last = halts.last; leads = halts.leads; cut = halts.cut; stuck = halts.stops.0; number = halts.stops.1 }

pub many_of : {T : Type 0} (tells : T → Note → List ℕ → T → Type 0) (refuses : T → Note → Type 0) (old : T) (held now : Option (List ℕ)) (whole : List ℕ)
    → Halts tells refuses old held now whole fault.Many → IsMany whole
many_of tells refuses old held now whole halts =
    record { notes = halts.notes; last = halts.last; rest = halts.rest; leads = halts.leads; cut = halts.cut; count = halts.stops.0; more = halts.stops.1 }

-- The same in a file
pub broken_file : {T : Type 0} (tells : T → Note → List ℕ → T → Type 0) (refuses : T → Note → Type 0) (old : T) (held now : Option (List ℕ)) (files : Option Files)
    (name : List ℕ) (line : ℕ) → ((whole : List ℕ) × IsFileText files name whole × Halts tells refuses old held now whole (fault.Line line))
    → (text : List ℕ) × IsFileText files name text × BreaksAt run_begins text line
broken_file tells refuses old held now files name line found = (found.0, found.1, breaks_of tells refuses old held now found.0 line found.2)

pub many_file : {T : Type 0} (tells : T → Note → List ℕ → T → Type 0) (refuses : T → Note → Type 0) (old : T) (held now : Option (List ℕ)) (files : Option Files)
    (name : List ℕ) → ((whole : List ℕ) × IsFileText files name whole × Halts tells refuses old held now whole fault.Many)
    → (text : List ℕ) × IsFileText files name text × IsMany text
many_file tells refuses old held now files name found = (found.0, found.1, many_of tells refuses old held now found.0 found.2)

pub at_line : NotBoth → (files : Option Files) (name : List ℕ) (before : List Note) (whole : List ℕ) (line : ℕ) → IsRun files name before → IsFileText files name whole
    → BreaksAt run_begins whole line → files ≡ None
at_line not_both files name before whole line run is breaks =
    untold files name (text_of before) (whole) (λ same. not_both run_begins whole before line (subst (λ t. IsText run_begins t before) same run.read) breaks) run.told is

too_many : OneFront → (before : List Note) (whole : List ℕ) → IsText run_begins whole before → length before ≤ LINES → IsMany whole → ⊥
too_many front before whole read few many =
    let found = front run_begins whole before many.notes many.last many.rest read many.leads many.cut in
    let sizes : length before ≡ length many.notes + length found.0 =
    sym (length-map before says) ∙ ap length found.3 ∙ length-append (map says many.notes) (map says found.0)
    ∙ omega (arith, length-map many.notes says, length-map found.0 says) in
    let none : found.0 ≡ [] = none_left found.0 (omega (arith, sizes, few, many.count)) in
    many.more (found.1 ∙ ap text_of none)

pub at_many : OneFront → (files : Option Files) (name : List ℕ) (before : List Note) (whole : List ℕ) → IsRun files name before → IsFileText files name whole
    → IsMany whole → files ≡ None
at_many front files name before whole run is many =
    untold files name (text_of before) (whole) (λ same. too_many front before whole (subst (λ t. IsText run_begins t before) same run.read) run.few many) run.told is

refused_name : OneFront → (listed : Listed) (before notes : List Note) (last to : Stand) (note : Note) (whole more : List ℕ) → first_other listed before ≡ None
    → IsText run_begins whole before → Leads run_begins notes last → Steps last note to → whole ≡ text_of notes ++ (line_of note ++ more) → is_among listed note ≡ false → ⊥
refused_name front listed before notes last to note whole more none read leads steps cut refused =
    let found = front run_begins whole before (notes ++ note ∷ []) to more read (Leads-more run_begins notes last note to leads steps) (cut ∙ sym (text_of-more notes note more)) in
    let parts : map says before ≡ map says notes ++ (says note ∷ map says found.0) =
    found.3 ∙ ap (λ ss. ss ++ map says found.0) (map-append says notes (note ∷ [])) ∙ append_assoc (map says notes) (says note ∷ []) (map says found.0) in
    let nowhere : position (λ s. not (among_by listed s)) (map says notes ++ (says note ∷ map says found.0)) ≡ None =
    ap (position (λ s. not (among_by listed s))) (sym parts) ∙ sym (other_by listed before) ∙ none in
    let passes = passes_where_none (among_by listed) (map says notes) (map says found.0) (says note) nowhere in
    false≢true (sym refused ∙ among_step listed note ∙ passes)

pub at_name : OneFront → (files : Option Files) (name : List ℕ) (listed : Listed) (before notes : List Note) (last to : Stand) (note : Note) (whole more : List ℕ)
    → IsRun files name before → IsFileText files name whole → first_other listed before ≡ None → Leads run_begins notes last → Steps last note to
    → whole ≡ text_of notes ++ (line_of note ++ more) → is_among listed note ≡ false → files ≡ None
at_name front files name listed before notes last to note whole more run is none leads steps cut refused =
    untold files name (text_of before) (whole)
    (λ same.
    refused_name front listed before notes last to note whole more none (subst (λ t. IsText run_begins t before) same run.read) leads steps cut refused)
    run.told is

pub at_end : OneFront → (files : Option Files) (name : List ℕ) (before notes : List Note) (tail : List ℕ) → IsRun files name before → IsRun files name notes
    → tail_of before ≡ tail → tail_of notes ≢ tail → files ≡ None
at_end front files name before notes tail run also was now =
    untold files name (text_of before) (text_of notes)
    (λ same.
    let both = both_whole front (text_of notes) before notes (subst (λ t. IsText run_begins t before) same run.read) also.read in
    now (sym (tails_same before notes both) ∙ was))
    run.told also.told
