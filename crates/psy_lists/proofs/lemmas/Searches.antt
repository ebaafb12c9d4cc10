-- Searches of lists: whether an element passes a test, which is the first that does, and how many do.
use Rattle.std.proofs.Common.{◌≡◌, ◌∙◌, ◌||◌, ℕ, zero, suc, ◌+◌, ◌<◌, ◌≤◌, Bool, true, false, not, List, [], ◌∷◌, cond, filter, map, length, get_or, refl, sym, ap, inl, inr, arith}
use Rattle.std.specs.List.{count_by, list_all, list_any, position, prefix_len}
use Rattle.std.proofs.lemmas.Bool.{cases_Bool, false≢true}
use Rattle.std.proofs.lemmas.List.{length-map}
use Rattle.std.proofs.lemmas.List.Folds.{list_all_at}
use Rattle.std.proofs.lemmas.List.Sums.{sum_by-cons}

-- ---- in what is made of each element

pub list_any-map : {X Y : Type 0} (q : Y → Bool) (f : X → Y) (xs : List X) → list_any q (map f xs) ≡ list_any (λ x. q (f x)) xs
list_any-map q f [] = refl
list_any-map q f (x ∷ xs) = ap (λ b. q (f x) || b) (list_any-map q f xs)

pub prefix_len-map : {X Y : Type 0} (q : Y → Bool) (f : X → Y) (xs : List X) → prefix_len q (map f xs) ≡ prefix_len (λ x. q (f x)) xs
prefix_len-map q f [] = refl
prefix_len-map q f (x ∷ xs) = ap (λ n. cond (q (f x)) (1 + n) 0) (prefix_len-map q f xs)

pub position-map : {X Y : Type 0} (q : Y → Bool) (f : X → Y) (xs : List X) → position q (map f xs) ≡ position (λ x. q (f x)) xs
position-map q f xs = rw (length-map xs f, prefix_len-map (λ y. not (q y)) f xs) refl

-- ---- of all elements

-- What all of a list are, one of them is.
pub all_at : {X : Type 0} (p : X → Bool) (xs : List X) (i : ℕ) (d : X) → i < length xs → list_all p xs ≡ true → p (get_or xs i d) ≡ true
all_at p xs i d within all = by (p (get_or xs i d)) refl
  where
    by : (b : Bool) → p (get_or xs i d) ≡ b → p (get_or xs i d) ≡ true
    by true e = e
    by false e = absurd (false≢true (sym (list_all_at p xs i d within e) ∙ all))

-- No more pass than there are.
pub filter_less : {X : Type 0} (p : X → Bool) (xs : List X) → length (filter p xs) ≤ length xs
filter_less p [] = omega arith
filter_less p (x ∷ xs) =
    let rest = filter_less p xs in
    elim (cases_Bool (p x)) [ inl passes ↦ rw passes (omega (arith, rest)) | inr fails ↦ rw fails (omega (arith, rest)) ]

-- Some pass where one does.
pub some_pass : {X : Type 0} (p : X → Bool) (xs : List X) (x : X) (i : ℕ) → i < length xs → get_or xs i x ≡ x → p x ≡ true → 0 < count_by p xs
some_pass p [] x i l e h = absurd (omega (arith, l))
some_pass p (y ∷ xs) x zero l e h = omega (arith, sum_by-cons (λ y. cond (p y) 1 0) y xs, ap {B = ℕ} (λ b. cond b 1 0) (ap p e ∙ h))
some_pass p (y ∷ xs) x (suc i) l e h = omega (arith, sum_by-cons (λ y. cond (p y) 1 0) y xs, some_pass p xs x i (omega (arith, l)) e h)
