-- What holds of all that a format can say, and how far back it can refuse a field.
use Rattle.std.proofs.Common.{◌≡◌, ℕ, zero, suc, ◌≤◌, List, [], ◌∷◌, ◌++◌, length, length-append, Result, Ok, Err, refl, ap, arith}
use Rattle.psy_image.specs.Fields.{AreBytes, Field, Number, Signed, Name, Opcode, These, End, Value, spelling, Takes}
use Rattle.psy_image.specs.Formats.{Format, Done, Then, Here, Refuse, Spells, ◌>>=◌, times, each}
use Rattle.psy_image.specs.Formats.Spells.{done, then_, here}
use Rattle.psy_image.specs.Reading.{go_on, field_at, read}
use Rattle.psy_image.proofs.FieldsRead.{field_err, field_ok}

-- P holds of all that the format can say, and where it refuses a field, at most so many bytes were left.
abbrev pub Keeps : {A : Type 0} → ℕ → (A → Type 0) → Format A → Type 0
Keeps n P (Done a) = P a
Keeps n P (Then f more) = (v : Value f) → Keeps n P (more v)
Keeps n P (Here more) = (left : ℕ) → left ≤ n → Keeps n P (more left)
Keeps n P (Refuse left) = left ≤ n

pub keeps_then : {A B : Type 0} (n : ℕ) (P : A → Type 0) (Q : B → Type 0) (F : Format A) (next : A → Format B) → Keeps n P F → ((a : A) → P a → Keeps n Q (next a)) → Keeps n Q (F >>= next)
keeps_then n P Q (Done a) next h g = g a h
keeps_then n P Q (Then f more) next h g = λ v. keeps_then n P Q (more v) next (h v) g
keeps_then n P Q (Here more) next h g = λ left few. keeps_then n P Q (more left) next (h left few) g
keeps_then n P Q (Refuse left) next h g = h

pub keeps_times : {S : Type 0} (n : ℕ) (P : S → Type 0) (step : S → Format S) (k : ℕ) (s : S) → P s → ((t : S) → P t → Keeps n P (step t)) → Keeps n P (times k step s)
unfolding times
keeps_times n P step zero s h more = h
keeps_times n P step (suc k) s h more = keeps_then n P P (step s) (times k step) (more s h) (λ t g. keeps_times n P step k t g more)

pub keeps_each : {X S : Type 0} (n : ℕ) (P : S → Type 0) (step : X → S → Format S) (xs : List X) (s : S) → P s → ((x : X) (t : S) → P t → Keeps n P (step x t)) → Keeps n P (each xs step s)
unfolding each
keeps_each n P step [] s h more = h
keeps_each n P step (x ∷ xs) s h more = keeps_then n P P (step x s) (each xs step) (more x s h) (λ t g. keeps_each n P step xs t g more)

-- ---- what is kept is so when it is read

-- What reading came to keeps that.
abbrev pub Within : {A : Type 0} → ℕ → (A → Type 0) → Result (A × List ℕ) ℕ → Type 0
Within n P (Ok x) = P x.0
Within n P (Err left) = left ≤ n

shorter : (text bytes rest : List ℕ) → bytes ≡ text ++ rest → length rest ≤ length bytes
shorter text bytes rest e = omega (arith, ap length e, length-append text rest)

left_over : (f : Field) (v : Value f) (bytes rest : List ℕ) → Takes f v bytes rest → length rest ≤ length bytes
left_over (Number least most) v bytes rest t = shorter (spelling (Number least most) v) bytes rest t.0
left_over Signed v bytes rest t = shorter (spelling Signed v) bytes rest t.0
left_over (Name earlier) v bytes rest t = shorter (spelling (Name earlier) v) bytes rest t.0
left_over Opcode v bytes rest t = shorter (spelling Opcode v) bytes rest t.0
left_over (These expected) v bytes rest t = shorter expected bytes rest t.0
left_over End v bytes rest t = omega (arith, ap length t.1)

kept_then : {A : Type 0} (n : ℕ) (P : A → Type 0) (f : Field) (more : Value f → Format A) (bytes : List ℕ) → length bytes ≤ n → AreBytes bytes
    → ((v : Value f) (rest : List ℕ) → length rest ≤ n → AreBytes rest → Within n P (read (more v) rest))
    → (r : Result (Value f × List ℕ) ℕ) → field_at f bytes ≡ r → Within n P (go_on r (λ v rest. read (more v) rest))
kept_then n P f more bytes few fits next (Ok x) e =
    let (takes, fits1) = field_ok f bytes x.0 x.1 fits e in
    next x.0 x.1 (omega (arith, few, left_over f x.0 bytes x.1 takes)) fits1
kept_then n P f more bytes few fits next (Err left) e = omega (arith, few, field_err f bytes left e)

pub kept : {A : Type 0} (n : ℕ) (P : A → Type 0) (F : Format A) (bytes : List ℕ) → Keeps n P F → length bytes ≤ n → AreBytes bytes → Within n P (read F bytes)
kept n P (Done a) bytes h few fits = h
kept n P (Then f more) bytes h few fits = kept_then n P f more bytes few fits (λ v rest few1 fits1. kept n P (more v) rest (h v) few1 fits1) (field_at f bytes) refl
kept n P (Here more) bytes h few fits = kept n P (more (length bytes)) bytes (h (length bytes) few) few fits
kept n P (Refuse left) bytes h few fits = h

-- What is kept is so of what is spelled.
pub kept_spelled : {A : Type 0} (n : ℕ) (P : A → Type 0) (F : Format A) (bytes : List ℕ) (a : A) (rest : List ℕ) → Keeps n P F → length bytes ≤ n → Spells F bytes a rest → P a
kept_spelled n P F bytes a rest h few (done _ _) = h
kept_spelled n P F bytes a rest h few (then_ f more v _ middle _ _ takes inner) =
    kept_spelled n P (more v) middle a rest (h v) (omega (arith, few, left_over f v bytes middle takes)) inner
kept_spelled n P F bytes a rest h few (here more _ _ _ inner) = kept_spelled n P (more (length bytes)) bytes a rest (h (length bytes) few) few inner
