-- The first note with a name that isn't listed, note by note.
use Rattle.std.proofs.Common.{◌≡◌, ◌∙◌, refl, sym, ap, ℕ, ◌+◌, Bool, true, false, not, cond, List, [], ◌∷◌, ◌++◌, length, map, Option, None, Some, option_map, arith}
use Rattle.std.specs.List.{position, position_from}
use Rattle.std.proofs.lemmas.Bool.{false≢true}
use Rattle.std.proofs.lemmas.Iterator.Adapters.{position_from-zero}
use Rattle.psy_passes.specs.NameChecks.{with_next}

-- The first place, where one more element comes
abbrev with_end : Option ℕ → Bool → ℕ → Option ℕ
with_end (Some first) passes place = Some first
with_end None true place = Some place
with_end None false place = None

from_more : {X : Type 0} (t : X → Bool) (i : ℕ) (xs : List X) (x : X) → position_from t i (xs ++ x ∷ []) ≡ with_end (position_from t i xs) (t x) (i + length xs)
from_more t i [] x = by (t x)
  where
    by : (b : Bool) → cond b (Some i) None ≡ with_end None b (i + 0)
    by true = ap Some (omega arith)
    by false = refl
from_more t i (y ∷ xs) x = by (t y) (from_more t (i + 1) xs x)
  where
    by : (b : Bool) → position_from t (i + 1) (xs ++ x ∷ []) ≡ with_end (position_from t (i + 1) xs) (t x) (i + 1 + length xs)
        → cond b (Some i) (position_from t (i + 1) (xs ++ x ∷ [])) ≡ with_end (cond b (Some i) (position_from t (i + 1) xs)) (t x) (i + length (y ∷ xs))
    by true more = refl
    by false more = let at : i + 1 + length xs ≡ i + length (y ∷ xs) = omega arith in more ∙ ap (with_end (position_from t (i + 1) xs) (t x)) at

pub position_more : {X : Type 0} (t : X → Bool) (xs : List X) (x : X) → position t (xs ++ x ∷ []) ≡ with_end (position t xs) (t x) (length xs)
position_more t xs x =
    let at : 0 + length xs ≡ length xs = omega arith in
    position_from-zero t (xs ++ x ∷ []) ∙ from_more t 0 xs x ∙ ap (with_end (position_from t 0 xs) (t x)) at
    ∙ ap (λ o. with_end o (t x) (length xs)) (sym (position_from-zero t xs))

-- The number of the first that doesn't pass, counted from 1, with one more
pub number_more : {X : Type 0} (passes : X → Bool) (xs : List X) (x : X)
    → option_map (λ k. k + 1) (position (λ y. not (passes y)) (xs ++ x ∷ [])) ≡ with_next (option_map (λ k. k + 1) (position (λ y. not (passes y)) xs)) (passes x) (length xs + 1)
number_more passes xs x = ap (option_map (λ k. k + 1)) (position_more (λ y. not (passes y)) xs x) ∙ by (position (λ y. not (passes y)) xs) (passes x)
  where
    by : (o : Option ℕ) (b : Bool) → option_map (λ k. k + 1) (with_end o (not b) (length xs)) ≡ with_next (option_map (λ k. k + 1) o) b (length xs + 1)
    by (Some first) b = refl
    by None true = refl
    by None false = refl

-- Where all so far pass and one more does, all pass.
pub all_more : {X : Type 0} (passes : X → Bool) (xs : List X) (x : X) → position (λ y. not (passes y)) xs ≡ None → passes x ≡ true → position (λ y. not (passes y)) (xs ++ x ∷ []) ≡ None
all_more passes xs x none is =
    position_more (λ y. not (passes y)) xs x ∙ ap (λ o. with_end o (not (passes x)) (length xs)) none ∙ ap (λ b. with_end None (not b) (length xs)) is

-- None is no number.
is_there : {X : Type 0} → Option X → Bool
is_there None = false
is_there (Some x) = true

pub none_some : {X : Type 0} (x : X) → ◌≡◌ {A = Option X} None (Some x) → ⊥
unfolding is_there
none_some x e = false≢true (ap is_there e)

-- No place passes where none is first.
from_none : {X : Type 0} (t : X → Bool) (i : ℕ) (xs ys : List X) (x : X) → position_from t i (xs ++ x ∷ ys) ≡ None → t x ≡ false
from_none t i [] ys x none = by (t x) none
  where
    by : (b : Bool) → cond b (Some i) (position_from t (i + 1) ys) ≡ None → b ≡ false
    by true e = absurd (none_some i (sym e))
    by false e = refl
from_none t i (y ∷ xs) ys x none = from_none t (i + 1) xs ys x (by (t y) none)
  where
    by : (b : Bool) → cond b (Some i) (position_from t (i + 1) (xs ++ x ∷ ys)) ≡ None → position_from t (i + 1) (xs ++ x ∷ ys) ≡ None
    by true e = absurd (none_some i (sym e))
    by false e = e

pub passes_where_none : {X : Type 0} (passes : X → Bool) (xs ys : List X) (x : X) → position (λ y. not (passes y)) (xs ++ x ∷ ys) ≡ None → passes x ≡ true
passes_where_none passes xs ys x none = by (passes x) (from_none (λ y. not (passes y)) 0 xs ys x (sym (position_from-zero (λ y. not (passes y)) (xs ++ x ∷ ys)) ∙ none))
  where
    by : (b : Bool) → not b ≡ false → b ≡ true
    by true e = refl
    by false e = absurd (false≢true (sym e))

-- The first place among what is made of each
pub position_map : {X Y : Type 0} (q : Y → Bool) (f : X → Y) (xs : List X) → position (λ x. q (f x)) xs ≡ position q (map f xs)
position_map {X} {Y} q f xs = position_from-zero (λ x. q (f x)) xs ∙ by 0 xs ∙ sym (position_from-zero q (map f xs))
  where
    by : (i : ℕ) (xs : List X) → position_from (λ x. q (f x)) i xs ≡ position_from q i (map f xs)
    by i [] = refl
    by i (x ∷ xs) = ap (cond (q (f x)) (Some i)) (by (i + 1) xs)

-- Of no number none is made.
pub none_mapped : (o : Option ℕ) → option_map (λ k. k + 1) o ≡ None → o ≡ None
none_mapped None is = refl
none_mapped (Some n) is = absurd (none_some (n + 1) (sym is))
