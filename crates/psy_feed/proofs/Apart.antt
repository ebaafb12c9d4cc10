-- Lists in which nothing stands twice.
use Rattle.std.proofs.Common.{◌≡◌, ◌≢◌, ℕ, zero, suc, ◌+◌, List, [], ◌∷◌, ◌++◌, refl, sym, subst, inl, inr, arith}
use Rattle.std.specs.List.{AllPairs, flat_map, range_with_len}
use Rattle.std.proofs.lemmas.List.Elements.{All-contains_itself}
use Rattle.std.proofs.lemmas.List.Kept.{AllPairs-cons}
use Rattle.psy_tree.proofs.lemmas.Among.{Among, among}
use Rattle.psy_feed.proofs.lemmas.Ranges.{among_cases, range_from}

-- Each thing of the list is none of those behind it.
abbrev pub Apart : {A : Type 0} → List A → Type 0
Apart [] = Unit {0}
Apart (x ∷ xs) = (Among x xs → ⊥) × Apart xs

pub all_pairs : {A : Type 0} (xs : List A) → Apart xs → AllPairs (λ a b. a ≢ b) xs
all_pairs [] h = λ i j d less within. absurd (omega (arith, within))
all_pairs {A = A} (x ∷ xs) h = AllPairs-cons (λ (a b : A). a ≢ b) x xs
    (λ k d within e. h.0 (subst (λ z. Among z xs) (sym e) (among _ xs (All-contains_itself xs k d within)))) (all_pairs xs h.1)

pub apart_append : {A : Type 0} (xs ys : List A) → Apart xs → Apart ys → ((x : A) → Among x xs → Among x ys → ⊥) → Apart (xs ++ ys)
apart_append [] ys first second none = second
apart_append (x ∷ xs) ys first second none = (
  λ m. elim (among_cases x xs ys m) [ inl here ↦ first.0 here | inr there ↦ none x (inl refl) there ],
  apart_append xs ys first.1 second (λ y here there. none y (inr here) there),
)

-- What is given of two numbers of a range has nothing in common.
pub apart_range : {A : Type 0} (given : ℕ → List A) → ((i : ℕ) → Apart (given i)) → ((i j : ℕ) (x : A) → Among x (given i) → Among x (given j) → i ≡ j)
    → (a n : ℕ) → Apart (flat_map given (range_with_len a n))
apart_range given each same a zero = tt
apart_range given each same a (suc n) = apart_append (given a) (flat_map given (range_with_len (a + 1) n)) (each a) (apart_range given each same (a + 1) n)
    (λ x here there. let r = range_from given x (a + 1) n there in omega (arith, same a (a + 1 + r.0) x here r.2))
