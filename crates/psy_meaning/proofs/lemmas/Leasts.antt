-- The least of some numbers.
use Rattle.std.proofs.Common.{◌≡◌, ℕ, zero, suc, ◌+◌, ◌<◌, ◌≤◌, min, List, [], ◌∷◌, All, length, get_or, sym, subst, inl, inr, arith}
use Rattle.std.specs.List.{Contains, All}
use Rattle.std.proofs.lemmas.Bool.{cases_lt}
use Rattle.std.proofs.lemmas.List.Elements.{All-head, All-tail, Contains-get_or, All-from_get_or}
use Rattle.psy_meaning.specs.Timing.{least}

pub least_bound : (b : ℕ) (xs : List ℕ) → 1 ≤ length xs → All (λ n. b ≤ n) xs → b ≤ least xs
least_bound b [] some all = absurd (omega (arith, some))
least_bound b (x ∷ []) some all = All-head (λ n. b ≤ n) x [] all
least_bound b (x ∷ y ∷ xs) some all =
    let head : b ≤ x = All-head (λ n. b ≤ n) x (y ∷ xs) all in
    let rest : b ≤ least (y ∷ xs) = least_bound b (y ∷ xs) (omega arith) (All-tail (λ n. b ≤ n) x (y ∷ xs) all) in
    omega (arith, head, rest)

pub least_below : (xs : List ℕ) (n : ℕ) → Contains xs n → least xs ≤ n
least_below [] n (k, l, e) = absurd (omega (arith, l))
least_below (x ∷ []) n (zero, l, e) = omega (arith, e)
least_below (x ∷ []) n (suc k, l, e) = absurd (omega (arith, l))
least_below (x ∷ y ∷ xs) n (zero, l, e) = omega (arith, e)
least_below (x ∷ y ∷ xs) n (suc k, l, e) = let rest : least (y ∷ xs) ≤ n = least_below (y ∷ xs) n (k, omega (arith, l), e) in omega (arith, rest)

-- One of the numbers that none is below is the least.
pub least_is : (xs : List ℕ) (n : ℕ) → Contains xs n → ((i : ℕ) → i < length xs → n ≤ get_or xs i 0) → n ≡ least xs
least_is xs n one most =
    let below : least xs ≤ n = least_below xs n one in
    let above : n ≤ least xs = least_bound n xs (omega (arith, one.1)) (All-from_get_or (λ m. n ≤ m) xs 0 most) in
    omega (arith, below, above)

pub least_one : (xs : List ℕ) (i n m : ℕ) → i < length xs → Contains xs n → m ≡ min n (get_or xs i 0) → Contains xs m
least_one xs i n m l one e = elim (cases_lt (get_or xs i 0) n) [
  | inl h ↦ (let is : m ≡ get_or xs i 0 = omega (arith, e, h) in subst (Contains xs) (sym is) (Contains-get_or xs i 0 l))
  | inr h ↦ (let is : m ≡ n = omega (arith, e, h) in subst (Contains xs) (sym is) one)
]

pub least_more : (xs : List ℕ) (i n m : ℕ) → ((k : ℕ) → k < i → n ≤ get_or xs k 0) → m ≡ min n (get_or xs i 0) → (k : ℕ) → k < i + 1 → m ≤ get_or xs k 0
least_more xs i n m most e k l = elim (cases_lt k i) [
  | inl h ↦ (let le = most k h in omega (arith, le, e))
  | inr h ↦ (let is : k ≡ i = omega (arith, l, h) in subst (λ j. m ≤ get_or xs j 0) (sym is) (omega (arith, e)))
]

pub least_above : (b : ℕ) (xs : List ℕ) → 1 ≤ length xs → All (λ n. b < n) xs → b < least xs
least_above b [] some all = absurd (omega (arith, some))
least_above b (x ∷ []) some all = All-head (λ n. b < n) x [] all
least_above b (x ∷ y ∷ xs) some all =
    let head : b < x = All-head (λ n. b < n) x (y ∷ xs) all in
    let rest : b < least (y ∷ xs) = least_above b (y ∷ xs) (omega arith) (All-tail (λ n. b < n) x (y ∷ xs) all) in
    omega (arith, head, rest)
