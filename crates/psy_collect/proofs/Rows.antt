-- Lists whose elements are of rows: what is added row by row, and how many there are in all.
use Rattle.std.proofs.Common.{◌≡◌, ◌≢◌, ◌∙◌, refl, sym, ap, ℕ, zero, suc, ◌+◌, ◌<◌, ◌≤◌, ◌==◌, Bool, cond, List, [], ◌∷◌, ◌++◌, None, filter, take, length, get_or, set, nat_le, inl, inr, append-nil, append_assoc, length-append, arith}
use Rattle.std.specs.Prelude.{slice_get}
use Rattle.std.specs.List.{All, flat_map, range_with_len}
use Rattle.std.specs.Option.{unwrap_or}
use Rattle.std.proofs.lemmas.Bool.{cases_Bool, cases_eq, eq-eqb, le-leb, lt-leb, leb-false, leb-true, ne_eqb}
use Rattle.std.proofs.lemmas.Grind.{flat_map-append}
use Rattle.std.proofs.lemmas.List.{set_past, take_more}
use Rattle.std.proofs.lemmas.Option.{unwrap_or-slice_get}
use Rattle.psy_lists.proofs.lemmas.Ranges.{range_more}
use Rattle.std.proofs.lemmas.List.Elements.{All-append, All-head, All-nil, All-tail, All-weaker, filter-append}

module _ {X : Type 0} (key : X → ℕ) where
  -- Those of a row
  abbrev pub row : ℕ → List X → List X
  row k xs = filter (λ x. key x == k) xs

  -- What is all of one row is all that there is of it,
  pub row_own : (k : ℕ) (xs : List X) → All (λ x. key x ≡ k) xs → row k xs ≡ xs
  row_own k [] all = refl
  row_own k (x ∷ xs) all =
      ap (λ b. cond b (x ∷ row k xs) (row k xs)) (eq-eqb (key x) k (All-head (λ y. key y ≡ k) x xs all))
      ∙ ap (λ ys. x ∷ ys) (row_own k xs (All-tail (λ y. key y ≡ k) x xs all))

  -- and nothing of another.
  pub row_other : (k j : ℕ) (xs : List X) → All (λ x. key x ≡ k) xs → j ≢ k → row j xs ≡ []
  row_other k j [] all other = refl
  row_other k j (x ∷ xs) all other =
      ap (λ b. cond b (x ∷ row j xs) (row j xs)) (ne_eqb (key x) j (λ e. other (sym e ∙ All-head (λ y. key y ≡ k) x xs all)))
      ∙ row_other k j xs (All-tail (λ y. key y ≡ k) x xs all) other

  -- ---- what is added to each row

  module _ (f : ℕ → List X) where
    module _ (total : ℕ) (each : (k : ℕ) → k < total → All (λ x. key x ≡ k) (f k)) where
      none_in : (a n k : ℕ) → a + n ≤ total → k < a → row k (flat_map f (range_with_len a n)) ≡ []
      none_in a zero k few less = refl
      none_in a (suc n) k few less =
          filter-append (λ x. key x == k) (f a) (flat_map f (range_with_len (a + 1) n))
          ∙ ap (λ xs. xs ++ row k (flat_map f (range_with_len (a + 1) n))) (row_other a k (f a) (each a (omega (arith, few))) (λ e. absurd (omega (arith, e, less))))
          ∙ none_in (a + 1) n k (omega (arith, few)) (omega (arith, less))

      one_in : (a n k : ℕ) → a + n ≤ total → a ≤ k → k < a + n → row k (flat_map f (range_with_len a n)) ≡ f k
      one_in a zero k few low high = absurd (omega (arith, low, high))
      one_in a (suc n) k few low high =
          filter-append (λ x. key x == k) (f a) (flat_map f (range_with_len (a + 1) n))
          ∙ elim (cases_eq k a) [
            | inl here ↦
                ap (λ xs. row k (f a) ++ xs) (none_in (a + 1) n k (omega (arith, few)) (omega (arith, here))) ∙ append-nil (row k (f a))
                ∙ ap (λ j. row j (f a)) here ∙ row_own a (f a) (each a (omega (arith, few))) ∙ ap f (sym here)
            | inr other ↦
                ap (λ xs. xs ++ row k (flat_map f (range_with_len (a + 1) n))) (row_other a k (f a) (each a (omega (arith, few))) other)
                ∙ one_in (a + 1) n k (omega (arith, few)) (let next : a + 1 ≤ k = grind (arith, low, other) in next) (omega (arith, high))
          ]

      all_in : (a n : ℕ) → a + n ≤ total → All (λ x. key x < total) (flat_map f (range_with_len a n))
      all_in a zero few = All-nil (λ x. key x < total)
      all_in a (suc n) few =
          All-append (λ x. key x < total) (f a) (flat_map f (range_with_len (a + 1) n))
          (All-weaker (λ x. key x ≡ a) (λ x. key x < total) (λ x e. omega (arith, e, few)) (f a) (each a (omega (arith, few))))
          (all_in (a + 1) n (omega (arith, few)))

      -- Behind others, what is added to all rows adds to each what is its own,
      pub row_more : (xs : List X) (k : ℕ) → k < total → row k (xs ++ flat_map f (range_with_len 0 total)) ≡ row k xs ++ f k
      row_more xs k less =
          filter-append (λ x. key x == k) xs (flat_map f (range_with_len 0 total))
          ∙ ap (λ ys. row k xs ++ ys) (one_in 0 total k (omega arith) (omega arith) (omega (arith, less)))

      -- and all are of rows that there are.
      pub all_more : (xs : List X) → All (λ x. key x < total) xs → All (λ x. key x < total) (xs ++ flat_map f (range_with_len 0 total))
      all_more xs all = All-append (λ x. key x < total) xs (flat_map f (range_with_len 0 total)) all (all_in 0 total (omega arith))

  -- ---- how many there are

  -- Those of row `a` or behind it
  abbrev from : ℕ → List X → List X
  from a xs = filter (λ x. nat_le a (key x)) xs

  split : (a : ℕ) (xs : List X) → length (from a xs) ≡ length (row a xs) + length (from (a + 1) xs)
  split a [] = omega arith
  split a (x ∷ xs) =
      let rest = split a xs in
      elim (cases_eq (key x) a) [
        | inl here ↦
            (let one = eq-eqb (key x) a here in
            let low = le-leb a (key x) (omega (arith, here)) in
            let past = lt-leb (a + 1) (key x) (omega (arith, here)) in
            rw (one, low, past) (omega (arith, rest)))
        | inr other ↦ (let none = ne_eqb (key x) a other in elim (cases_Bool (nat_le a (key x))) [
          | inl low ↦ (let more = le-leb (a + 1) (key x) (let d : a + 1 ≤ key x = grind (arith, other, leb-true a (key x) low) in d) in rw (none, low, more) (omega (arith, rest)))
          | inr past ↦ (let less = lt-leb (a + 1) (key x) (let far = leb-false a (key x) past in omega (arith, far)) in rw (none, past, less) (omega (arith, rest)))
        ])
      ]

  none_from : (n : ℕ) (xs : List X) → All (λ x. key x < n) xs → from n xs ≡ []
  none_from n [] all = refl
  none_from n (x ∷ xs) all =
      ap (λ b. cond b (x ∷ from n xs) (from n xs)) (lt-leb n (key x) (All-head (λ y. key y < n) x xs all))
      ∙ none_from n xs (All-tail (λ y. key y < n) x xs all)

  all_from : (xs : List X) → from 0 xs ≡ xs
  all_from [] = refl
  all_from (x ∷ xs) =
      ap (λ b. cond b (x ∷ from 0 xs) (from 0 xs)) (le-leb 0 (key x) (omega arith)) ∙ ap (λ ys. x ∷ ys) (all_from xs)

  module _ {Y : Type 0} (told : ℕ → List Y) (xs : List X) where
    count_from : (a n : ℕ) → ((k : ℕ) → a ≤ k → k < a + n → length (row k xs) ≤ length (told k))
        → length (from a xs) ≤ length (flat_map told (range_with_len a n)) + length (from (a + n) xs)
    count_from a zero each = (let same : a ≡ a + 0 = omega arith in omega (arith, ap (λ k. length (from k xs)) same))
    count_from a (suc n) each =
        let rest = count_from (a + 1) n (λ k low high. each k (omega (arith, low)) (omega (arith, high))) in
        let next : (a + 1) + n ≡ a + suc n = omega arith in
        omega (
          arith,
          split a xs,
          each a (omega arith) (omega arith),
          rest,
          ap (λ k. length (from k xs)) next,
          length-append (told a) (flat_map told (range_with_len (a + 1) n)),
        )

    -- Where each row is no longer than what is told of it, all is no longer than what is told.
    pub count_rows : (n : ℕ) → All (λ x. key x < n) xs → ((k : ℕ) → k < n → length (row k xs) ≤ length (told k)) → length xs ≤ length (flat_map told (range_with_len 0 n))
    count_rows n all each =
        let most = count_from 0 n (λ k low high. each k (omega (arith, high))) in
        let zero_on : 0 + n ≡ n = omega arith in
        omega (arith, most, ap (λ k. length (from k xs)) zero_on, ap length (all_from xs), ap length (none_from n xs all))

-- ---- what loops add

module _ {X : Type 0} where
  -- What is added of one number more
  pub added : (f : ℕ → List X) (old now next : List X) (n : ℕ) → now ≡ old ++ flat_map f (range_with_len 0 n) → next ≡ now ++ f n → next ≡ old ++ flat_map f (range_with_len 0 (n + 1))
  added f old now next n is more =
      more ∙ ap (λ xs. xs ++ f n) is ∙ append_assoc old (flat_map f (range_with_len 0 n)) (f n)
      ∙ ap (λ xs. old ++ xs) (sym (ap (flat_map f) (range_more n) ∙ flat_map-append f (range_with_len 0 n) (n ∷ []) ∙ ap (λ xs. flat_map f (range_with_len 0 n) ++ xs) (append-nil (f n))))

  -- What is added of one item more, among those of a row
  pub added_of : {Y : Type 0} (f : Y → List X) (p : Y → Bool) (ys : List Y) (i : ℕ) (y : Y) (old now next : List X) → i < length ys → y ≡ get_or ys i y
      → now ≡ old ++ flat_map f (filter p (take i ys)) → next ≡ now ++ flat_map f (filter p (y ∷ [])) → next ≡ old ++ flat_map f (filter p (take (i + 1) ys))
  added_of f p ys i y old now next less at is more =
      more ∙ ap (λ xs. xs ++ flat_map f (filter p (y ∷ []))) is ∙ append_assoc old (flat_map f (filter p (take i ys))) (flat_map f (filter p (y ∷ [])))
      ∙ ap (λ xs. old ++ xs) (sym (flat_map-append f (filter p (take i ys)) (filter p (y ∷ []))) ∙ ap (flat_map f) (sym (filter-append p (take i ys) (y ∷ []))
      ∙ ap (filter p) (sym (take_more ys i y less ∙ ap (λ x. take i ys ++ x ∷ []) (sym at)))))

-- There is no item of this number.
pub get_or_none : {X : Type 0} (xs : List X) (i : ℕ) (d : X) → None ≡ slice_get xs i → d ≡ get_or xs i d
get_or_none xs i d e = ap (λ o. unwrap_or o d) e ∙ unwrap_or-slice_get xs i d

-- Nothing is written where there is no place.
pub set_none : {X : Type 0} (xs : List X) (i : ℕ) (y : X) → None ≡ slice_get xs i → xs ≡ set xs i y
set_none xs i y none = sym (set_past xs i y (none_past xs i none))
  where
    none_past : {X : Type 0} (xs : List X) (i : ℕ) → None ≡ slice_get xs i → length xs ≤ i
    none_past [] i none = omega arith
    none_past (x ∷ xs) zero none = cc
    none_past (x ∷ xs) (suc i) none = (let rest = none_past xs i none in omega (arith, rest))
