-- How a file is read on, and how reading it ends.
use Rattle.std.proofs.Common.{◌≡◌, ◌≢◌, ◌∙◌, inl, inr, ◌⊎◌, refl, sym, ap, subst, ℕ, ◌+◌, ◌-◌, ◌<◌, ◌==◌, false, List, [], ◌∷◌, ◌++◌, length, take, Option, None, Some, Result, Ok, Err, append_assoc, append-nil, length-append, arith}
use Rattle.std.specs.Prelude.{IfErr, IsFalse, IsTrue}
use Rattle.std.proofs.lemmas.Bool.{false≢true}
use Rattle.std.proofs.Math.Seq.{take-length}
use Rattle.std.proofs.lemmas.List.{take-append-le}
use Rattle.psy_door.specs.Files.{Files, WhereTold, bytes_under}
use Rattle.psy_door.specs.Growth.{Grew}
use Rattle.psy_log.specs.declared.note.Note.{Note}
use Rattle.psy_notes.specs.declared.stand.Stand.{Stand}
use Rattle.psy_notes.specs.Fronts.{NoLine}
use Rattle.psy_notes.specs.Stands.{may_end, run_begins}
use Rattle.psy_notes.specs.Texts.{CannotGoOn, text_of}
use Rattle.psy_passes.specs.declared.scan_fault.ScanFault.{ScanFault}
use Rattle.psy_passes.specs.declared.scan_fault.ScanFault.TheVariants as fault
use Rattle.psy_passes.specs.declared.progress.Progress.{Progress}
use Rattle.psy_passes.specs.Progress.{IsUnfinished, StandsFor}
use Rattle.psy_passes.specs.Runs.{Halts, IsOutside, IsRun, tail_of}
use Rattle.psy_passes.specs.Telling.{Told, told_nothing}
use Rattle.psy_passes.proofs.Kept.{cut_off, halts, halts_unwritten, outside_stops}
use Rattle.psy_passes.proofs.lemmas.Growth.{front_nothing, grew_more}

-- The line that was read stands before what is left.
pub line_before : (bytes line more : List ℕ) → bytes ≡ line ++ more → take (length bytes - length more) bytes ≡ line
line_before bytes line more is =
    let size : length bytes - length more ≡ length line = omega (arith, ap length is, length-append line more) in
    ap (λ k. take k bytes) size ∙ ap (take (length line)) is ∙ take-append-le (length line) line more (omega arith) ∙ take-length line

-- What follows, where the front was read as notes
pub cut_behind : (front whole rest bytes more : List ℕ) → front ++ rest ≡ whole ++ bytes → whole ++ (bytes ++ more) ≡ front ++ (rest ++ more)
cut_behind front whole rest bytes more is = sym (append_assoc whole bytes more) ∙ ap (λ t. t ++ more) (sym is) ∙ append_assoc front rest more

-- Bytes that are left are left, whatever follows.
pub some_more : (rest more : List ℕ) → (length rest == 0) ≡ false → rest ++ more ≢ []
some_more [] more some = absurd (false≢true (sym some))
some_more (b ∷ rest) more some = λ e. omega (arith, ap length e)

-- One line more was read.
pub later_lines : {A : Type 0} (first now taken new : ℕ) → ((A × (now ≡ first)) ⊎ (first < now)) → taken ≡ now + 1 → new ≡ taken → first < new
later_lines first now taken new (inl same) more is = omega (arith, same.1, more, is)
later_lines first now taken new (inr later) more is = omega (arith, later, more, is)

-- Nothing was read yet.
pub first_told : (files : Option Files) (name bytes left : List ℕ) → bytes ≡ [] → WhereTold files (λ held. bytes_under held name ≡ left)
    → WhereTold files (λ held. bytes_under held name ≡ text_of [] ++ (bytes ++ left))
first_told None name bytes left none is = tt
first_told (Some held) name bytes left none is = is ∙ ap (λ b. b ++ left) (sym none)

-- What came of a call, where it failed
pub if_err : {A E : Type 0} (r : Result A E) (P Q : E → Type 0) → IfErr r P → ((e : E) → P e → Q e) → IfErr r Q
if_err (Ok a) P Q is on = tt
if_err (Err e) P Q is on = on e is

-- One more piece was read, and lines were taken of it.
pub reads_on : (files now : Option Files) (name bytes piece next left rest behind : List ℕ) (notes after : List Note) → now ≡ files
    → WhereTold files (λ held. bytes_under held name ≡ text_of notes ++ (bytes ++ rest)) → next ≡ bytes ++ piece → WhereTold now (λ _. rest ≡ piece ++ behind)
    → text_of after ++ left ≡ text_of notes ++ next → WhereTold files (λ held. bytes_under held name ≡ text_of after ++ (left ++ behind))
reads_on None now name bytes piece next left rest behind notes after same so_far is came on = tt
reads_on (Some held) now name bytes piece next left rest behind notes after same so_far is came on =
    let here : rest ≡ piece ++ behind = subst (λ f. WhereTold f (λ _. rest ≡ piece ++ behind)) same came in
    so_far ∙ ap (λ r. text_of notes ++ (bytes ++ r)) here ∙ ap (λ t. text_of notes ++ t) (sym (append_assoc bytes piece behind) ∙ ap (λ b. b ++ behind) (sym is))
    ∙ sym (append_assoc (text_of notes) next behind) ∙ ap (λ t. t ++ behind) (sym on) ∙ append_assoc (text_of after) left behind

-- The same where no line is taken yet.
pub reads_piece : (files now : Option Files) (name bytes piece next rest behind : List ℕ) (notes : List Note) → now ≡ files
    → WhereTold files (λ held. bytes_under held name ≡ text_of notes ++ (bytes ++ rest)) → next ≡ bytes ++ piece → WhereTold now (λ _. rest ≡ piece ++ behind)
    → WhereTold files (λ held. bytes_under held name ≡ text_of notes ++ (next ++ behind))
reads_piece files now name bytes piece next rest behind notes same so_far is came = reads_on files now name bytes piece next next rest behind notes notes same so_far is came refl

-- Nothing is left of the file.
pub reads_end : (files now : Option Files) (name bytes next rest : List ℕ) (notes : List Note) → now ≡ files
    → WhereTold files (λ held. bytes_under held name ≡ text_of notes ++ (bytes ++ rest)) → next ≡ bytes → WhereTold now (λ _. rest ≡ [])
    → WhereTold files (λ held. bytes_under held name ≡ text_of notes ++ next)
reads_end None now name bytes next rest notes same so_far is ended = tt
reads_end (Some held) now name bytes next rest notes same so_far is ended =
    let here : rest ≡ [] = subst (λ f. WhereTold f (λ _. rest ≡ [])) same ended in
    so_far ∙ ap (λ r. text_of notes ++ (bytes ++ r)) here ∙ ap (λ t. text_of notes ++ t) (append-nil bytes ∙ sym is)

-- Nothing goes on where bytes are left of which no line may stand there, or where the text may not end.
stuck_by : (stand : Stand) (left : List ℕ) → (left ≢ [] → NoLine stand left) → ((left ≢ []) ⊎ IsFalse (may_end stand)) → CannotGoOn stand left
stuck_by stand [] part (inl some) = absurd (some refl)
stuck_by stand [] part (inr unended) = inl (refl, unended)
stuck_by stand (b ∷ left) part why =
    let some : (b ∷ left) ≢ [] = λ e. omega (arith, ap length e) in
    inr (some, part some)

-- What isn't the whole run stops there.
pub unfinished_halts : {T : Type 0} (tells : T → Note → List ℕ → T → Type 0) (refuses : T → Note → Type 0) (old : T) (held before now : Option (List ℕ))
    (notes : List Note) (text : List ℕ) (state : T) (kept : Progress) (whole left : List ℕ) (why : ScanFault) → StandsFor tells old held before notes text state kept
    → whole ≡ text_of notes ++ left → (left ≢ [] → NoLine kept.stand left) → IsUnfinished before now left kept why → Halts tells refuses old held now whole why
unfinished_halts tells refuses old held before now notes text state kept whole left (fault.Line line) stands cut part is =
    record {
      notes = notes;
      last = kept.stand;
      rest = left;
      text = text;
      now = state;
      leads = stands.leads;
      cut = cut;
      tells_so = stands.told;
      stops = (stuck_by kept.stand left part is.0, is.1 ∙ ap (λ n. n + 1) stands.lines);
      written = cut_off tells old held before now notes text state kept stands (0, is.2);
    }
unfinished_halts tells refuses old held before now notes text state kept whole left fault.Unwritten stands cut part is =
    halts_unwritten tells refuses old held before now notes text state kept whole left fault.Unwritten stands cut refl is
unfinished_halts tells refuses old held before now notes text state kept whole left _ stands cut part is = absurd is

-- The whole run was read, told of and written.
abbrev pub ReadsAll : {T : Type 0} → (T → Note → List ℕ → T → Type 0) → T → T → Option (List ℕ) → Option (List ℕ) → Option Files → List ℕ → List ℕ → Type 0
ReadsAll tells old now held now_held files name tail =
    (notes : List Note) × (text : List ℕ) × IsRun files name notes × Told tells old notes text now × (tail ≡ tail_of notes) × Grew held now_held text

pub reads_all : {T : Type 0} (tells : T → Note → List ℕ → T → Type 0) (old : T) (held before now : Option (List ℕ)) (notes : List Note) (text : List ℕ) (state : T)
    (kept : Progress) (files : Option Files) (name left tail : List ℕ) → StandsFor tells old held before notes text state kept
    → WhereTold files (λ told. bytes_under told name ≡ text_of notes ++ left) → left ≡ [] → IsTrue (may_end kept.stand) → tail ≡ kept.tail.items
    → Grew before now kept.text.items → ReadsAll tells old state held now files name tail
reads_all {T} tells old held before now notes text state kept files name left tail stands is none ends same grew = (
  notes,
  text,
  record {
    read = record { last = kept.stand; leads = stands.leads; ends = ends; whole = refl };
    few = stands.few;
    told = whole files is;
  },
  stands.told,
  same ∙ stands.tail,
  subst (Grew held now) (sym stands.written.2) (grew_more held before now stands.written.0 kept.text.items stands.written.1 grew),
)
  where
    whole : (files : Option Files) → WhereTold files (λ told. bytes_under told name ≡ text_of notes ++ left) → WhereTold files (λ told. bytes_under told name ≡ text_of notes)
    whole None is = tt
    whole (Some told) is = is ∙ ap (λ t. text_of notes ++ t) none ∙ append-nil (text_of notes)

-- Reading the file halts.
abbrev pub HaltsIn : {T : Type 0} → (T → Note → List ℕ → T → Type 0) → (T → Note → Type 0) → T → Option (List ℕ) → Option (List ℕ) → Option Files → List ℕ
    → ScanFault → Type 0
HaltsIn tells refuses old held now files name why =
    (whole : List ℕ) × WhereTold files (λ told. bytes_under told name ≡ whole) × Halts tells refuses old held now whole why

-- The bytes of the file, where files are told
abbrev whole_of : Option Files → List ℕ → List ℕ
whole_of None name = []
whole_of (Some told) name = bytes_under told name

whole_told : (files : Option Files) (name : List ℕ) → WhereTold files (λ told. bytes_under told name ≡ whole_of files name)
whole_told None name = tt
whole_told (Some told) name = refl

-- Before anything is read
pub halts_first : {T : Type 0} (tells : T → Note → List ℕ → T → Type 0) (refuses : T → Note → Type 0) (old : T) (held : Option (List ℕ)) (files : Option Files)
    (name : List ℕ) (why : ScanFault) → IsOutside why → HaltsIn tells refuses old held held files name why
halts_first tells refuses old held files name why is = (
  whole_of files name,
  whole_told files name,
  record {
    notes = [];
    last = run_begins;
    rest = whole_of files name;
    text = [];
    now = old;
    leads = refl;
    cut = refl;
    tells_so = told_nothing;
    stops = outside_stops refuses [] run_begins (whole_of files name) old why is;
    written = front_nothing held [];
  },
)

-- Behind notes that were read
pub halts_outside : {T : Type 0} (tells : T → Note → List ℕ → T → Type 0) (refuses : T → Note → Type 0) (old : T) (held now : Option (List ℕ)) (notes : List Note)
    (text : List ℕ) (state : T) (kept : Progress) (files : Option Files) (name rest : List ℕ) (why : ScanFault) → StandsFor tells old held now notes text state kept
    → WhereTold files (λ told. bytes_under told name ≡ text_of notes ++ rest) → IsOutside why → HaltsIn tells refuses old held now files name why
halts_outside tells refuses old held now notes text state kept files name rest why stands is outside = (
  text_of notes ++ rest,
  is,
  halts tells refuses old held now notes text state kept (text_of notes ++ rest) rest why stands refl
      (outside_stops refuses notes kept.stand rest state why outside),
)
