-- What holds of all that a format can say, where each field is in its range: so of what bytes spell.
use Rattle.std.proofs.Common.{◌≡◌, ℕ, zero, suc, ◌+◌, ◌≤◌, List, [], length, ap, subst, arith}
use Rattle.std.specs.Prelude.{⊤}
use Rattle.psy_image.specs.Fields.{Field, Number, Signed, Name, Opcode, These, End, Fits, Value, Takes}
use Rattle.psy_image.specs.Formats.{Format, Done, Then, Here, Refuse, Spells, ◌>>=◌, times}
use Rattle.psy_image.specs.Formats.Spells.{done, then_, here}
use Rattle.psy_image.specs.Images.{counted}

-- P holds of all that the format can say.
abbrev pub Says : {A : Type 0} → (A → Type 0) → Format A → Type 0
Says P (Done a) = P a
Says P (Then f more) = (v : Value f) → Fits f v → Says P (more v)
Says P (Here more) = (left : ℕ) → Says P (more left)
Says P (Refuse left) = ⊤

pub says_then : {A B : Type 0} (P : A → Type 0) (Q : B → Type 0) (F : Format A) (next : A → Format B) → Says P F → ((a : A) → P a → Says Q (next a)) → Says Q (F >>= next)
says_then P Q (Done a) next h g = g a h
says_then P Q (Then f more) next h g = λ v fits. says_then P Q (more v) next (h v fits) g
says_then P Q (Here more) next h g = λ left. says_then P Q (more left) next (h left) g
says_then P Q (Refuse left) next h g = tt

pub weaker : {A : Type 0} (P Q : A → Type 0) (F : Format A) → Says P F → ((a : A) → P a → Q a) → Says Q F
weaker P Q (Done a) h g = g a h
weaker P Q (Then f more) h g = λ v fits. weaker P Q (more v) (h v fits) g
weaker P Q (Here more) h g = λ left. weaker P Q (more left) (h left) g
weaker P Q (Refuse left) h g = tt

-- Nothing is said of it.
pub says_any : {A : Type 0} (F : Format A) → Says (λ a. ⊤) F
says_any (Done a) = tt
says_any (Then f more) = λ v fits. says_any (more v)
says_any (Here more) = λ left. says_any (more left)
says_any (Refuse left) = tt

-- ---- steps

-- Each step takes what holds of one number to what holds of the next.
pub says_times : {S : Type 0} (I : ℕ → S → Type 0) (step : S → Format S) (k i : ℕ) (s : S) → I i s → ((j : ℕ) (t : S) → I j t → Says (I (suc j)) (step t)) → Says (I (k + i)) (times k step s)
unfolding times
says_times I step zero i s h more = let same : i ≡ 0 + i = omega arith in subst (λ n. I n s) same h
says_times I step (suc k) i s h more =
    let same : k + suc i ≡ suc k + i = omega arith in
    subst (λ n. Says (I n) (step s >>= times k step)) same
    (says_then (I (suc i)) (I (k + suc i)) (step s) (times k step) (more i s h) (λ t g. says_times I step k (suc i) t g more))

-- A list that grows by one a step has at most so many members.
pub says_counted : {S X : Type 0} (list : S → List X) (P : S → Type 0) (most : ℕ) (step : S → Format S) (s : S) → list s ≡ [] → P s
    → ((t : S) → P t → Says (λ u. P u × (length (list u) ≡ length (list t) + 1)) (step t)) → Says (λ t. P t × (length (list t) ≤ most)) (counted most step s)
says_counted {S} list P most step s none start more = λ count fits.
    weaker (λ t. P t × (length (list t) ≡ count + 0)) (λ t. P t × (length (list t) ≤ most)) (times count step s)
    (says_times (λ n t. P t × (length (list t) ≡ n)) step count 0 s (start, ap length none) one)
    (λ t h. (h.0, omega (arith, h.1, fits.1)))
  where
    one : (j : ℕ) (t : S) → P t × (length (list t) ≡ j) → Says (λ u. P u × (length (list u) ≡ suc j)) (step t)
    one j t h = weaker (λ u. P u × (length (list u) ≡ length (list t) + 1)) (λ u. P u × (length (list u) ≡ suc j)) (step t) (more t h.0) (λ u g. (g.0, omega (arith, g.1, h.1)))

-- ---- what is spelled

fits_of : (f : Field) (v : Value f) (bytes rest : List ℕ) → Takes f v bytes rest → Fits f v
fits_of (Number least most) v bytes rest t = t.1
fits_of Signed v bytes rest t = t.1
fits_of (Name earlier) v bytes rest t = t.1
fits_of Opcode v bytes rest t = t.1
fits_of (These expected) v bytes rest t = tt
fits_of End v bytes rest t = tt

pub said : {A : Type 0} (P : A → Type 0) (F : Format A) (bytes : List ℕ) (a : A) (rest : List ℕ) → Says P F → Spells F bytes a rest → P a
said P F bytes a rest h (done _ _) = h
said P F bytes a rest h (then_ f more v _ middle _ _ takes inner) = said P (more v) middle a rest (h v (fits_of f v bytes middle takes)) inner
said P F bytes a rest h (here more _ _ _ inner) = said P (more (length bytes)) bytes a rest (h (length bytes)) inner
