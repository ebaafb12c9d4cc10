-- Tests of lists, and numbers between others.
use Rattle.std.proofs.Common.{◌≡◌, ◌∙◌, refl, sym, subst, ℕ, zero, suc, ◌+◌, ◌-◌, ◌<◌, ◌≤◌, Bool, true, ◌||◌, List, [], ◌∷◌, inl, inr, take, arith}
use Rattle.std.specs.List.{Contains, list_all, list_any, range_with_len}
use Rattle.std.proofs.lemmas.Bool.{and_parts, cases_Bool, false≢true, or_right}
use Rattle.std.proofs.lemmas.List.FromFn.{get_or-range_with_len, length-range_with_len}
use Rattle.psy_lists.proofs.lemmas.Members.{contains_behind, contains_front, contains_none, front_or_behind}

-- What all of a list pass, one of them passes.
pub every : {X : Type 0} (p : X → Bool) (xs : List X) → list_all p xs ≡ true → (x : X) → Contains xs x → p x ≡ true
every p [] all x c = absurd (contains_none x c)
every p (y ∷ xs) all x c =
    let parts = and_parts (p y) (list_all p xs) all in
    elim (front_or_behind y xs x c) [ inl e ↦ subst (λ z. p z ≡ true) e parts.0 | inr rest ↦ every p xs parts.1 x rest ]

-- Where some passes, there is one that does.
pub some : {X : Type 0} (p : X → Bool) (xs : List X) → list_any p xs ≡ true → (x : X) × Contains xs x × (p x ≡ true)
some p [] any = absurd (false≢true any)
some p (y ∷ xs) any = elim (cases_Bool (p y)) [
  | inl passed ↦ (y, contains_front y xs, passed)
  | inr failed ↦ (let (x, there, is) = some p xs (subst (λ b. (b || list_any p xs) ≡ true) failed any) in (x, contains_behind y xs x there, is))
]

-- Some passes where one does.
pub any_of : {X : Type 0} (p : X → Bool) (xs : List X) (x : X) → Contains xs x → p x ≡ true → list_any p xs ≡ true
any_of p [] x c is = absurd (contains_none x c)
any_of p (y ∷ xs) x c is = elim (front_or_behind y xs x c) [
  | inl e ↦ subst (λ b. (b || list_any p xs) ≡ true) (sym (subst (λ z. p z ≡ true) (sym e) is)) refl
  | inr rest ↦ or_right (p y) (list_any p xs) (any_of p xs x rest is)
]

-- What stands at the front of a list stands in it.
pub in_front_part : {X : Type 0} (n : ℕ) (xs : List X) (x : X) → Contains (take n xs) x → Contains xs x
in_front_part zero xs x c = absurd (contains_none x c)
in_front_part (suc n) [] x c = absurd (contains_none x c)
in_front_part (suc n) (y ∷ xs) x c = elim (front_or_behind y (take n xs) x c) [
  | inl e ↦ subst (Contains (y ∷ xs)) e (contains_front y xs)
  | inr rest ↦ contains_behind y xs x (in_front_part n xs x rest)
]

-- A number from one on, before another
pub in_range : (from len n : ℕ) → from ≤ n → n < from + len → Contains (range_with_len from len) n
in_range from len n low high =
    let within : n - from < len = omega (arith, low, high) in
    let back : from + (n - from) ≡ n = omega (arith, low) in
    (n - from, subst (λ m. n - from < m) (sym (length-range_with_len from len)) within, get_or-range_with_len from len (n - from) n within ∙ back)

-- A number between those of a part lies between those of the whole.
pub reaches : (low first cycle past high : ℕ) → low ≤ first → first ≤ cycle → cycle < past → past ≤ high → (low ≤ cycle) × (cycle < high)
reaches low first cycle past high a b c d = (omega (arith, a, b), omega (arith, c, d))
