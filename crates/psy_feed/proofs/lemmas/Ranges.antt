-- What is given of each number of a range: of a range that is longer by one, and what is among it.
use Rattle.std.proofs.Common.{◌≡◌, ◌⊎◌, ℕ, zero, suc, ◌+◌, ◌<◌, List, [], ◌∷◌, ◌++◌, sym, ap, subst, ◌∙◌, inl, inr, arith, append_assoc, append-nil}
use Rattle.std.specs.List.{flat_map, range_with_len}
use Rattle.std.proofs.lemmas.Grind.{flat_map-append}
use Rattle.psy_lists.proofs.lemmas.Ranges.{range_more}
use Rattle.psy_tree.proofs.lemmas.Among.{Among, among_left, among_right}

-- ---- one number more

module _ {A : Type 0} (text : A → List ℕ) (given : ℕ → List A) where
  -- The text of what is given of the first so many numbers
  abbrev pub text_below : ℕ → List ℕ
  text_below n = flat_map text (flat_map given (range_with_len 0 n))

  below_more : (n : ℕ) → text_below (n + 1) ≡ text_below n ++ flat_map text (given n)
  below_more n =
      ap (λ r. flat_map text (flat_map given r)) (range_more n)
      ∙ ap (flat_map text) (flat_map-append given (range_with_len 0 n) (n ∷ []) ∙ ap (λ l. flat_map given (range_with_len 0 n) ++ l) (append-nil (given n)))
      ∙ flat_map-append text (flat_map given (range_with_len 0 n)) (given n)

  -- A text that goes on by one number more
  pub text_more : (front out new : List ℕ) (n : ℕ) → out ≡ front ++ text_below n → new ≡ out ++ flat_map text (given n) → new ≡ front ++ text_below (n + 1)
  text_more front out new n was now =
      now ∙ ap (λ l. l ++ flat_map text (given n)) was ∙ append_assoc front (text_below n) (flat_map text (given n)) ∙ ap (λ l. front ++ l) (sym (below_more n))

-- ---- lines of things by their numbers

module _ (line : ℕ → List ℕ) where
  -- The lines of the first so many
  abbrev pub lines_below : ℕ → List ℕ
  lines_below n = flat_map line (range_with_len 0 n)

  lines_more : (n : ℕ) → lines_below (n + 1) ≡ lines_below n ++ line n
  lines_more n = ap (flat_map line) (range_more n) ∙ flat_map-append line (range_with_len 0 n) (n ∷ []) ∙ ap (λ l. lines_below n ++ l) (append-nil (line n))

  -- A text that goes on by the line of one more
  pub line_more : (front out new : List ℕ) (n : ℕ) → out ≡ front ++ lines_below n → new ≡ out ++ line n → new ≡ front ++ lines_below (n + 1)
  line_more front out new n was now = now ∙ ap (λ l. l ++ line n) was ∙ append_assoc front (lines_below n) (line n) ∙ ap (λ l. front ++ l) (sym (lines_more n))

-- ---- what is among it

pub among_cases : {A : Type 0} (x : A) (xs ys : List A) → Among x (xs ++ ys) → Among x xs ⊎ Among x ys
among_cases x [] ys h = inr h
among_cases x (z ∷ xs) ys (inl e) = inl (inl e)
among_cases x (z ∷ xs) ys (inr h) = elim (among_cases x xs ys h) [ inl front ↦ inl (inr front) | inr back ↦ inr back ]

pub among_range : {A : Type 0} (given : ℕ → List A) (x : A) (a n j : ℕ) → j < n → Among x (given (a + j)) → Among x (flat_map given (range_with_len a n))
among_range given x a zero j h m = absurd (omega (arith, h))
among_range given x a (suc n) zero h m = let e : a + 0 ≡ a = omega arith in among_left x (given a) (flat_map given (range_with_len (a + 1) n))
    (subst (λ k. Among x (given k)) e m)
among_range given x a (suc n) (suc j) h m =
    let e : a + suc j ≡ a + 1 + j = omega arith in
    among_right x (given a) (flat_map given (range_with_len (a + 1) n))
    (among_range given x (a + 1) n j (omega (arith, h)) (subst (λ k. Among x (given k)) e m))

pub range_from : {A : Type 0} (given : ℕ → List A) (x : A) (a n : ℕ) → Among x (flat_map given (range_with_len a n))
    → (j : ℕ) × (j < n) × Among x (given (a + j))
range_from given x a zero m = absurd m
range_from given x a (suc n) m = elim (among_cases x (given a) (flat_map given (range_with_len (a + 1) n)) m) [
  | inl here ↦ (let e : a ≡ a + 0 = omega arith in (0, omega arith, subst (λ k. Among x (given k)) e here))
  | inr there ↦ (let r = range_from given x (a + 1) n there in let e : a + 1 + r.0 ≡ a + suc r.0 = omega arith in
      (suc r.0, omega (arith, r.1), subst (λ k. Among x (given k)) e r.2))
]

pub below_from : {A : Type 0} (given : ℕ → List A) (x : A) (n : ℕ) → Among x (flat_map given (range_with_len 0 n)) → (j : ℕ) × (j < n) × Among x (given j)
below_from given x n m = let r = range_from given x 0 n m in let e : 0 + r.0 ≡ r.0 = omega arith in (r.0, r.1, subst (λ k. Among x (given k)) e r.2)

pub among_below : {A : Type 0} (given : ℕ → List A) (x : A) (n j : ℕ) → j < n → Among x (given j) → Among x (flat_map given (range_with_len 0 n))
among_below given x n j h m = let e : j ≡ 0 + j = omega arith in among_range given x 0 n j h (subst (λ k. Among x (given k)) e m)
