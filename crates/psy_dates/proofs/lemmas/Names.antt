-- Lists that name each number of a stretch that passes a test.
use Rattle.std.proofs.Common.{◌≡◌, ℕ, zero, suc, ◌+◌, ◌<◌, ◌≤◌, Bool, false, List, [], ◌∷◌, ◌++◌, drop, length, get_or, All, sym, ap, subst, ◌∙◌, inl, inr, arith}
use Rattle.std.proofs.lemmas.Bool.{cases_eq}
use Rattle.std.proofs.lemmas.List.{drop_all, drop_more}
use Rattle.psy_dates.specs.Movers.{NamesAll}

-- ---- one more number

-- The next number is named.
pub names_more : (test : ℕ → Bool) (n from : ℕ) (names : List ℕ) → from ≤ n → NamesAll test n from names → NamesAll test (n + 1) from (names ++ n ∷ [])
names_more test n from [] up all = (up, omega arith, all, λ k low high. absurd (omega (arith, low, high)))
names_more test n from (m ∷ more) up all = (all.0, omega (arith, all.1), all.2, names_more test n (m + 1) more (omega (arith, all.1)) all.3)

-- The next number doesn't pass.
pub names_same : (test : ℕ → Bool) (n from : ℕ) (names : List ℕ) → test n ≡ false → NamesAll test n from names → NamesAll test (n + 1) from names
names_same test n from [] not_it all = λ k low high. elim (cases_eq k n) [
  | inl same ↦ ap test same ∙ not_it
  | inr other ↦ all k low (omega (arith, high, other))
]
names_same test n from (m ∷ more) not_it all = (all.0, omega (arith, all.1), all.2, names_same test n (m + 1) more not_it all.3)

-- ---- the same list

-- A list names also those that pass a test that fewer pass.
pub names_fewer : (test fewer : ℕ → Bool) (end from : ℕ) (names : List ℕ) → ((k : ℕ) → k < end → test k ≡ false → fewer k ≡ false) → NamesAll test end from names → NamesAll fewer end from names
names_fewer test fewer end from [] less all = λ k low high. less k high (all k low high)
names_fewer test fewer end from (m ∷ more) less all = (all.0, all.1, λ k low high. less k (omega (arith, high, all.1)) (all.2 k low high), names_fewer test fewer end (m + 1) more less all.3)

-- The same of equal lists
pub names_as : {X : Type 0} (test : X → ℕ → Bool) (x y : X) (end last : ℕ) (names more : List ℕ) → y ≡ x → last ≡ end → more ≡ names → NamesAll (test x) end 0 names → NamesAll (test y) last 0 more
names_as test x y end last names more same ends are all = subst (λ z. NamesAll (test z) last 0 more) (sym same) (subst (λ n. NamesAll (test x) n 0 more) (sym ends) (subst (NamesAll (test x) end 0) (sym are) all))

-- Those that it names are below the end.
one_more : (end m : ℕ) (more : List ℕ) → m < end → All (λ k. k < end) more → All (λ k. k < end) (m ∷ more)
one_more end m more l all zero d within = l
one_more end m more l all (suc k) d within = all k d (omega (arith, within))

pub names_within : (test : ℕ → Bool) (end from : ℕ) (names : List ℕ) → NamesAll test end from names → All (λ k. k < end) names
names_within test end from [] all = λ k d l. absurd (omega (arith, l))
names_within test end from (m ∷ more) all = one_more end m more all.1 (names_within test end (m + 1) more all.3)

-- An empty list names none.
pub names_none : (test : ℕ → Bool) (end : ℕ) (names : List ℕ) → length names ≡ 0 → NamesAll test end 0 names → (k : ℕ) → k < end → test k ≡ false
names_none test end [] empty all k l = all k (omega arith) l
names_none test end (m ∷ more) empty all k l = absurd (omega (arith, empty))

-- ---- its rest

-- The next one that is named, and the rest behind it
pub named_next : (test : ℕ → Bool) (end from : ℕ) (names : List ℕ) (place : ℕ) → place < length names → NamesAll test end from (drop place names)
    → (from ≤ get_or names place 0) × (get_or names place 0 < end) × ((k : ℕ) → from ≤ k → k < get_or names place 0 → test k ≡ false) × NamesAll test end (get_or names place 0 + 1) (drop (place + 1) names)
named_next test end from names place l all = subst (NamesAll test end from) (drop_more names place 0 l) all

-- Behind the last one none passes.
pub named_last : (test : ℕ → Bool) (end from : ℕ) (names : List ℕ) (place : ℕ) → length names ≤ place → NamesAll test end from (drop place names) → (k : ℕ) → from ≤ k → k < end → test k ≡ false
named_last test end from names place l all = subst (NamesAll test end from) (drop_all place names l) all
