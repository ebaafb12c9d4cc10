-- Sums over the first numbers, and the demand as one.
use Rattle.std.proofs.Common.{◌≡◌, ℕ, zero, suc, ◌+◌, ◌<◌, ◌≤◌, List, [], ◌∷◌, length, slice_get, Some, sym, subst, inl, inr, arith}
use Rattle.std.specs.Prelude.{Bool, true, filter, sum_by}
use Rattle.std.specs.List.{range_with_len}
use Rattle.std.proofs.lemmas.Bool.{cases_Bool}
use Rattle.std.proofs.lemmas.List.Sums.{sum_by-cons}
use Rattle.std.proofs.lemmas.Option.{same_Some}
use Rattle.psy_base.specs.declared.edge.Edge.{Edge}
use Rattle.psy_base.specs.Paths.{FitsDueLast, IsGreatestWeight}
use Rattle.psy_meaning.specs.Demand.{IsDemand}

-- The sum of the first so many
abbrev pub total : (ℕ → ℕ) → ℕ → ℕ
total f zero = 0
total f (suc n) = f 0 + total (λ k. f (suc k)) n

total_most : (f g : ℕ → ℕ) (n : ℕ) → ((k : ℕ) → f k ≤ g k) → total f n ≤ total g n
total_most f g zero each = omega arith
total_most f g (suc n) each = omega (arith, each 0, total_most (λ k. f (suc k)) (λ k. g (suc k)) n (λ k. each (suc k)))

range_most : (test : ℕ → Bool) (f g : ℕ → ℕ) (from n : ℕ) → ((k : ℕ) → k < n → test (from + k) ≡ true → f (from + k) ≤ g k) → sum_by f (filter test (range_with_len from n)) ≤ total g n
range_most test f g from zero each = omega arith
range_most test f g from (suc n) each =
    let more = range_with_len (from + 1) n in
    let rest = range_most test f (λ k. g (suc k)) (from + 1) n (λ k l. let same : from + suc k ≡ from + 1 + k = omega arith in subst (λ m. test m ≡ true → f m ≤ g (suc k)) same (each (suc k) (omega (arith, l)))) in
    elim (cases_Bool (test from)) [
      | inl passes ↦ (
          let first : f from ≤ g 0 = (let same : from + 0 ≡ from = omega arith in subst (λ m. test m ≡ true → f m ≤ g 0) same (each 0 (omega arith)) passes) in
          rw passes (omega (arith, first, rest, sum_by-cons f from (filter test more))))
      | inr fails ↦ rw fails (omega (arith, rest))
    ]

-- Where each of the first so many that pass a test is at most another, so is the sum over them.
pub sum_most : (test : ℕ → Bool) (f g : ℕ → ℕ) (n : ℕ) → ((k : ℕ) → k < n → test k ≡ true → f k ≤ g k) → sum_by f (filter test (range_with_len 0 n)) ≤ total g n
sum_most test f g n each = range_most test f g 0 n (λ k l. let same : k ≡ 0 + k = omega arith in subst (λ m. test m ≡ true → f m ≤ g k) same (each k l))

-- Where one is less, and none greater, so is the sum.
pub total_less : (f g : ℕ → ℕ) (n one : ℕ) → one < n → f one < g one → ((k : ℕ) → f k ≤ g k) → total f n < total g n
total_less f g zero one within less each = absurd (omega (arith, within))
total_less f g (suc n) zero within less each = omega (arith, less, total_most (λ k. f (suc k)) (λ k. g (suc k)) n (λ k. each (suc k)))
total_less f g (suc n) (suc one) within less each = omega (arith, each 0, total_less (λ k. f (suc k)) (λ k. g (suc k)) n one (omega (arith, within)) less (λ k. each (suc k)))

-- Each is at most the sum.
pub total_above : (f : ℕ → ℕ) (n one : ℕ) → one < n → f one ≤ total f n
total_above f zero one within = absurd (omega (arith, within))
total_above f (suc n) zero within = omega arith
total_above f (suc n) (suc one) within = omega (arith, total_above (λ k. f (suc k)) n one (omega (arith, within)))

abbrev in_front : ℕ → (ℕ → ℕ) → ℕ → ℕ
in_front first rest zero = first
in_front first rest (suc k) = rest k

-- A demand is the sum of greatest weights.
pub demand_total : (graphs : List (List Edge)) (within demand : ℕ) → IsDemand graphs within demand
    → (f : ℕ → ℕ) × (total f (length graphs) ≡ demand) × ((agent : ℕ) (edges : List Edge) → slice_get graphs agent ≡ Some edges → IsGreatestWeight edges (FitsDueLast within) (f agent))
demand_total [] within demand is = (λ k. 0, sym is, λ agent edges at. cc)
demand_total (graph ∷ graphs) within demand (one, others, greatest, rest, sum) =
    let (f, is, each) = demand_total graphs within others rest in
    (in_front one f, omega (arith, is, sum), at_each f each)
  where
    at_each : (f : ℕ → ℕ) → ((agent : ℕ) (edges : List Edge) → slice_get graphs agent ≡ Some edges → IsGreatestWeight edges (FitsDueLast within) (f agent)) → (agent : ℕ) (edges : List Edge) → slice_get (graph ∷ graphs) agent ≡ Some edges → IsGreatestWeight edges (FitsDueLast within) (in_front one f agent)
    at_each f each zero edges at = subst (λ g. IsGreatestWeight g (FitsDueLast within) one) (same_Some graph edges at) greatest
    at_each f each (suc agent) edges at = each agent edges at
