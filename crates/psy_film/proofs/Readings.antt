-- A file that is told is read as one run.
use Rattle.std.proofs.Common.{◌≡◌, ◌≢◌, ℕ, ◌+◌, ◌≤◌, List, [], ◌∷◌, ◌++◌, Option, None, Some, length, length-append, map, append-nil, refl, sym, ap, subst, ◌∙◌, arith}
use Rattle.std.specs.List.{flat_map}
use Rattle.std.proofs.lemmas.List.{length-map}
use Rattle.psy_lists.proofs.lemmas.Places.{none_left}
use Rattle.psy_door.specs.Files.{Files}
use Rattle.psy_log.specs.declared.form.Form.{Form}
use Rattle.psy_log.specs.declared.form.Form.TheVariants as form
use Rattle.psy_log.specs.declared.note.Note.{Note}
use Rattle.psy_log.specs.declared.note.Note.TheVariants as note
use Rattle.psy_log.specs.Forms.{says}
use Rattle.psy_log.specs.Table.{Said, line}
use Rattle.psy_notes.specs.declared.stand.Stand.{Stand}
use Rattle.psy_notes.specs.Stands.{run_begins}
use Rattle.psy_notes.specs.Texts.{BreaksAt, IsText, Leads, text_of}
use Rattle.psy_passes.specs.Outcomes.{IsFileText, IsMany}
use Rattle.psy_passes.specs.Runs.{IsRun, tail_line, tail_of}
use Rattle.psy_passes.specs.declared.reading.TheConstants.{LINES}

-- The laws of readings
abbrev pub OneFront : Type 0
OneFront = (first : Stand) (text : List ℕ) (notes fronts : List Note) (mid : Stand) (rest : List ℕ) → IsText first text notes → Leads first fronts mid
    → text ≡ text_of fronts ++ rest
    → (more : List Note) × (rest ≡ text_of more) × (length more ≤ length rest) × (map says notes ≡ map says fronts ++ map says more)

abbrev pub NotBoth : Type 0
NotBoth = (first : Stand) (text : List ℕ) (notes : List Note) (number : ℕ) → IsText first text notes → BreaksAt first text number → ⊥

-- Two readings of a text say the same.
one_said : OneFront → (some other : List Note) → IsText run_begins (text_of some) some → IsText run_begins (text_of other) other → text_of some ≡ text_of other
    → map says some ≡ map says other
one_said front some other read also same =
    let found = front run_begins (text_of some) some other also.last [] read also.leads (same ∙ sym (append-nil (text_of other))) in
    let none : found.0 ≡ [] = none_left found.0 found.2 in
    found.3 ∙ ap (λ ns. map says other ++ map says ns) none ∙ append-nil (map says other)

-- So what differs is of a file that isn't told.
pub untold : OneFront → (files : Option Files) (name : List ℕ) (some other : List Note) → IsRun files name some → IsRun files name other
    → (map says some ≡ map says other → ⊥) → files ≡ None
untold front None name some other run also differ = refl
untold front (Some held) name some other run also differ = absurd (differ (one_said front some other run.read also.read (sym run.told ∙ also.told)))

-- ---- another end or summary

abbrev tail_by : Form × List Said → List ℕ
tail_by (form.StopOverrun, said) = []
tail_by (form.StopTrap, said) = []
tail_by (form.Value, said) = []
tail_by (form.Message, said) = []
tail_by (other, said) = line other said

tail_step : (n : Note) → tail_line n ≡ tail_by (says n)
tail_step (note.Infeasible len demand supply None) = refl
tail_step (note.Infeasible len demand supply (Some processor)) = refl
tail_step (note.Refused what number None) = refl
tail_step (note.Refused what number (Some at)) = refl
tail_step _ = refl

tails_said : (notes : List Note) → tail_of notes ≡ flat_map tail_by (map says notes)
tails_said [] = refl
tails_said (n ∷ notes) = ap (λ first. first ++ tail_of notes) (tail_step n) ∙ ap (λ rest. tail_by (says n) ++ rest) (tails_said notes)

pub other_tail : OneFront → (files : Option Files) (name : List ℕ) (some other : List Note) → IsRun files name some → IsRun files name other
    → tail_of some ≢ tail_of other → files ≡ None
other_tail front files name some other run also differ =
    untold front files name some other run also (λ same. differ (tails_said some ∙ ap (flat_map tail_by) same ∙ sym (tails_said other)))

-- ---- no run

-- A text is that of a run.
text_is : (files : Option Files) (name bytes : List ℕ) (notes : List Note) → IsRun files name notes → IsFileText files name bytes
    → (IsText run_begins bytes notes → ⊥) → files ≡ None
text_is None name bytes notes run is unread = refl
text_is (Some held) name bytes notes run is unread = absurd (unread (subst (λ text. IsText run_begins text notes) (sym run.told ∙ is) run.read))

pub no_break : NotBoth → (files : Option Files) (name bytes : List ℕ) (notes : List Note) (number : ℕ) → IsRun files name notes → IsFileText files name bytes
    → BreaksAt run_begins bytes number → files ≡ None
no_break law files name bytes notes number run is breaks = text_is files name bytes notes run is (λ read. law run_begins bytes notes number read breaks)

pub not_many : OneFront → (files : Option Files) (name bytes : List ℕ) (notes : List Note) → IsRun files name notes → IsFileText files name bytes → IsMany bytes
    → files ≡ None
not_many front files name bytes notes run is many =
    text_is files name bytes notes run is
    (λ read.
    let found = front run_begins bytes notes many.notes many.last many.rest read many.leads many.cut in
    let sizes : length notes ≡ length many.notes + length found.0 =
    sym (length-map notes says) ∙ ap length found.3 ∙ length-append (map says many.notes) (map says found.0)
    ∙ omega (arith, length-map many.notes says, length-map found.0 says) in
    let few : length notes ≤ LINES = run.few in
    let count : length many.notes ≡ LINES = many.count in
    let none : found.0 ≡ [] = none_left found.0 (omega (arith, sizes, few, count)) in
    many.more (found.1 ∙ ap text_of none))
