-- Reading by a format is exact: what is read is spelled so, what is spelled so is read, and a bad field is the first one.
use Rattle.std.proofs.Common.{◌≡◌, ◌∙◌, ◌↔◌, ◌⊎◌, ℕ, List, length, Result, Ok, Err, inl, inr, refl, sym, ap, subst}
use Rattle.psy_image.specs.Fields.{AreBytes, Field, Value, Takes}
use Rattle.psy_image.specs.Formats.{Format, Done, Then, Here, Refuse, Spells, IsBad}
use Rattle.psy_image.specs.Formats.IsBad.{missing, behind, further, refused}
use Rattle.psy_image.specs.Formats.Spells.{done, then_, here}
use Rattle.psy_image.specs.Reading.{go_on, field_at, read}
use Rattle.psy_image.proofs.FieldsRead.{field_again, field_err, field_ok, ok_is}

-- ---- what is read is spelled so

-- What reading came to holds of the bytes.
abbrev pub Says : {A : Type 0} → Result (A × List ℕ) ℕ → Format A → List ℕ → Type 0
Says (Ok x) F bytes = Spells F bytes x.0 x.1 × AreBytes x.1
Says (Err left) F bytes = IsBad F bytes left

says_field : {A : Type 0} (f : Field) (more : Value f → Format A) (v : Value f) (bytes rest : List ℕ) → Takes f v bytes rest → (r : Result (A × List ℕ) ℕ) → Says r (more v) rest → Says r (Then f more) bytes
says_field f more v bytes rest takes (Ok x) h = (then_ f more v bytes rest x.0 x.1 takes h.0, h.1)
says_field f more v bytes rest takes (Err left) h = behind f more v bytes rest left takes h

not_read : (f : Field) (bytes : List ℕ) (left : ℕ) → field_at f bytes ≡ Err left → (v : Value f) (rest : List ℕ) → Takes f v bytes rest → ⊥
not_read f bytes left e v rest takes = let again = field_again f v bytes rest takes in cc

says_then : {A : Type 0} (f : Field) (more : Value f → Format A) (bytes : List ℕ) → AreBytes bytes → ((v : Value f) (rest : List ℕ) → AreBytes rest → Says (read (more v) rest) (more v) rest)
    → (r : Result (Value f × List ℕ) ℕ) → field_at f bytes ≡ r → Says (go_on r (λ v rest. read (more v) rest)) (Then f more) bytes
says_then f more bytes fits each (Ok x) e =
    let (takes, fits1) = field_ok f bytes x.0 x.1 fits e in
    says_field f more x.0 bytes x.1 takes (read (more x.0) x.1) (each x.0 x.1 fits1)
says_then f more bytes fits each (Err left) e = subst (IsBad (Then f more) bytes) (sym (field_err f bytes left e)) (missing f more bytes (not_read f bytes left e))

says_here : {A : Type 0} (more : ℕ → Format A) (bytes : List ℕ) (r : Result (A × List ℕ) ℕ) → Says r (more (length bytes)) bytes → Says r (Here more) bytes
says_here more bytes (Ok x) h = (here more bytes x.0 x.1 h.0, h.1)
says_here more bytes (Err left) h = further more bytes left h

pub says : {A : Type 0} (F : Format A) (bytes : List ℕ) → AreBytes bytes → Says (read F bytes) F bytes
says (Done a) bytes fits = (done a bytes, fits)
says (Then f more) bytes fits = says_then f more bytes fits (λ v rest fits1. says (more v) rest fits1) (field_at f bytes) refl
says (Here more) bytes fits = says_here more bytes (read (more (length bytes)) bytes) (says (more (length bytes)) bytes fits)
says (Refuse left) bytes fits = refused bytes left

-- ---- what is spelled so is read

pub spelled : {A : Type 0} (F : Format A) (bytes : List ℕ) (a : A) (rest : List ℕ) → Spells F bytes a rest → read F bytes ≡ Ok (a, rest)
spelled F bytes a rest (done _ _) = refl
spelled F bytes a rest (then_ f more v _ middle _ _ takes inner) = ap (λ r. go_on r (λ v rest. read (more v) rest)) (field_again f v bytes middle takes) ∙ spelled (more v) middle a rest inner
spelled F bytes a rest (here more _ _ _ inner) = spelled (more (length bytes)) bytes a rest inner

missing_read : {A : Type 0} (f : Field) (more : Value f → Format A) (bytes : List ℕ) → AreBytes bytes → ((v : Value f) (rest : List ℕ) → Takes f v bytes rest → ⊥)
    → (r : Result (Value f × List ℕ) ℕ) → field_at f bytes ≡ r → go_on r (λ v rest. read (more v) rest) ≡ Err (length bytes)
missing_read f more bytes fits none (Ok x) e = absurd (none x.0 x.1 (field_ok f bytes x.0 x.1 fits e).0)
missing_read f more bytes fits none (Err left) e = ap Err (field_err f bytes left e)

pub bad : {A : Type 0} (F : Format A) (bytes : List ℕ) (left : ℕ) → AreBytes bytes → IsBad F bytes left → read F bytes ≡ Err left
bad F bytes left fits (missing f more _ none) = missing_read f more bytes fits none (field_at f bytes) refl
bad F bytes left fits (behind f more v _ middle _ takes inner) =
    let at = field_again f v bytes middle takes in
    let (_, fits1) = field_ok f bytes v middle fits at in
    ap (λ r. go_on r (λ v rest. read (more v) rest)) at ∙ bad (more v) middle left fits1 inner
bad F bytes left fits (further more _ _ inner) = bad (more (length bytes)) bytes left fits inner
bad F bytes left fits (refused _ _) = refl

-- ---- both

pub read_is : {A : Type 0} (F : Format A) (bytes : List ℕ) (a : A) (rest : List ℕ) → AreBytes bytes → (read F bytes ≡ Ok (a, rest) ↔ Spells F bytes a rest)
read_is F bytes a rest fits = ((λ e. (subst (λ r. Says r F bytes) e (says F bytes fits)).0), spelled F bytes a rest)

pub read_bad : {A : Type 0} (F : Format A) (bytes : List ℕ) (left : ℕ) → AreBytes bytes → (read F bytes ≡ Err left ↔ IsBad F bytes left)
read_bad F bytes left fits = ((λ e. subst (λ r. Says r F bytes) e (says F bytes fits)), bad F bytes left fits)

-- ---- one bad field

-- Where bytes are bad, by the format: its first field isn't there, or what follows it is bad.
abbrev IsBadBy : {A : Type 0} → Format A → List ℕ → ℕ → Type 0
IsBadBy (Done a) bytes left = ⊥
IsBadBy (Then f more) bytes left =
    (((v : Value f) (rest : List ℕ) → Takes f v bytes rest → ⊥) × (left ≡ length bytes)) ⊎ ((x : Value f × List ℕ) × Takes f x.0 bytes x.1 × IsBad (more x.0) x.1 left)
IsBadBy (Here more) bytes left = IsBad (more (length bytes)) bytes left
IsBadBy (Refuse at) bytes left = left ≡ at

bad_by : {A : Type 0} (F : Format A) (bytes : List ℕ) (left : ℕ) → IsBad F bytes left → IsBadBy F bytes left
bad_by F bytes left (missing f more _ none) = inl (none, refl)
bad_by F bytes left (behind f more v _ middle _ takes inner) = inr ((v, middle), takes, inner)
bad_by F bytes left (further more _ _ inner) = inner
bad_by F bytes left (refused _ _) = refl

-- Bytes begin with a field in one way.
one_taken : (f : Field) (x y : Value f × List ℕ) (bytes : List ℕ) → Takes f x.0 bytes x.1 → Takes f y.0 bytes y.1 → x ≡ y
one_taken f x y bytes this that = ok_is x y (sym (field_again f x.0 bytes x.1 this) ∙ field_again f y.0 bytes y.1 that)

-- Bytes are bad at one place, whatever numbers they are.
pub one_bad : {A : Type 0} (F : Format A) (bytes : List ℕ) (left other : ℕ) → IsBad F bytes left → IsBad F bytes other → left ≡ other
one_bad (Done a) bytes left other h g = absurd (bad_by (Done a) bytes left h)
one_bad (Then f more) bytes left other h g = elim (bad_by (Then f more) bytes left h) [
  | inl (none, at) ↦ elim (bad_by (Then f more) bytes other g) [
    | inl (nothing, there) ↦ at ∙ sym there
    | inr (y, takes, inner) ↦ absurd (none y.0 y.1 takes)
  ]
  | inr (x, taken, bad_behind) ↦ elim (bad_by (Then f more) bytes other g) [
    | inl (none, at) ↦ absurd (none x.0 x.1 taken)
    | inr (y, takes, inner) ↦ one_bad (more x.0) x.1 left other bad_behind (subst (λ (z : Value f × List ℕ). IsBad (more z.0) z.1 other) (sym (one_taken f x y bytes taken takes)) inner)
  ]
]
one_bad (Here more) bytes left other h g = one_bad (more (length bytes)) bytes left other (bad_by (Here more) bytes left h) (bad_by (Here more) bytes other g)
one_bad (Refuse at) bytes left other h g = bad_by (Refuse at) bytes left h ∙ sym (bad_by (Refuse at) bytes other g)

-- What bytes spell isn't bad.
pub spelled_not_bad : {A : Type 0} (F : Format A) (bytes : List ℕ) (a : A) (rest : List ℕ) (left : ℕ) → Spells F bytes a rest → IsBad F bytes left → ⊥
spelled_not_bad F bytes a rest left (done _ _) g = bad_by (Done a) bytes left g
spelled_not_bad F bytes a rest left (then_ f more v _ middle _ _ takes inner) g = elim (bad_by (Then f more) bytes left g) [
  | inl (none, at) ↦ none v middle takes
  | inr (y, taken, bad_behind) ↦ spelled_not_bad (more v) middle a rest left inner (subst (λ (z : Value f × List ℕ). IsBad (more z.0) z.1 left) (sym (one_taken f (v, middle) y bytes takes taken)) bad_behind)
]
spelled_not_bad F bytes a rest left (here more _ _ _ inner) g = spelled_not_bad (more (length bytes)) bytes a rest left inner (bad_by (Here more) bytes left g)
