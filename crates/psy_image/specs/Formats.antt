-- The grammar as a datum: which fields stand one behind the other, and what they say. What bytes spell, and where they are
-- bad, follows from it.
use Rattle.std.specs.Prelude.{ℕ, zero, suc, List, [], ◌∷◌, length}
use Rattle.psy_image.specs.Fields.{Field, Value, Takes}

-- A format of what is an A.
pub data Format (A : Type 0) : Type 0 where
  -- nothing more
  Done : A → Format A
  -- a field, and then what its value asks for
  Then : (f : Field) → (Value f → Format A) → Format A
  -- what follows knows how many bytes are left
  Here : (ℕ → Format A) → Format A
  -- out of range, as only later bytes say: the field where so many bytes were left
  Refuse : ℕ → Format A

-- The bytes up to the rest spell it in that format.
pub data Spells {A : Type 0} : Format A → List ℕ → A → List ℕ → Type 0 where
  done : (a : A) (rest : List ℕ) → Spells (Done a) rest a rest
  then_ : (f : Field) (more : Value f → Format A) (v : Value f) (bytes middle : List ℕ) (a : A) (rest : List ℕ)
      → Takes f v bytes middle → Spells (more v) middle a rest → Spells (Then f more) bytes a rest
  here : (more : ℕ → Format A) (bytes : List ℕ) (a : A) (rest : List ℕ)
      → Spells (more (length bytes)) bytes a rest → Spells (Here more) bytes a rest

-- The first field that is missing, cut or out of range is the one from which on so many bytes are left.
pub data IsBad {A : Type 0} : Format A → List ℕ → ℕ → Type 0 where
  missing : (f : Field) (more : Value f → Format A) (bytes : List ℕ)
      → ((v : Value f) (rest : List ℕ) → Takes f v bytes rest → ⊥) → IsBad (Then f more) bytes (length bytes)
  behind : (f : Field) (more : Value f → Format A) (v : Value f) (bytes middle : List ℕ) (left : ℕ)
      → Takes f v bytes middle → IsBad (more v) middle left → IsBad (Then f more) bytes left
  further : (more : ℕ → Format A) (bytes : List ℕ) (left : ℕ) → IsBad (more (length bytes)) bytes left → IsBad (Here more) bytes left
  refused : (bytes : List ℕ) (left : ℕ) → IsBad (Refuse left) bytes left

infixl 10 ◌>>=◌
-- One format behind another
abbrev pub ◌>>=◌ : {A B : Type 0} → Format A → (A → Format B) → Format B
(Done a) >>= next = next a
(Then f more) >>= next = Then f (λ v. more v >>= next)
(Here more) >>= next = Here (λ left. more left >>= next)
(Refuse left) >>= next = Refuse left

-- One field
abbrev pub field : (f : Field) → Format (Value f)
field f = Then f Done

-- How many bytes are left
abbrev pub left : Format ℕ
left = Here Done

-- So many steps, each from what the one before it came to
unfoldable pub times : {S : Type 0} → ℕ → (S → Format S) → S → Format S
times zero step s = Done s
times (suc n) step s = step s >>= times n step

-- A step for each of a list, in order
unfoldable pub each : {X S : Type 0} → List X → (X → S → Format S) → S → Format S
each [] step s = Done s
each (x ∷ xs) step s = step x s >>= each xs step
