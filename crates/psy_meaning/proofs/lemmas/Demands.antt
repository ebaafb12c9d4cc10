-- The demand over a length is there and is one; agents are feasible or have an overload, one and not both; and demands as the
-- sums of lists of greatest weights.
use Rattle.std.proofs.Common.{◌≡◌, ◌⊎◌, ℕ, zero, suc, ◌+◌, ◌*◌, ◌<◌, ◌≤◌, List, [], ◌∷◌, length, slice_get, slice_index, sum_by, Some, refl, sym, subst, inl, inr, arith}
use Rattle.std.proofs.lemmas.Bool.{cases_eq, cases_lt}
use Rattle.std.proofs.lemmas.List.Sums.{sum_by-cons}
use Rattle.psy_base.specs.declared.edge.Edge.{Edge}
use Rattle.psy_base.specs.Paths.{FitsDueLast, IsGreatestWeight}
use Rattle.psy_meaning.specs.Demand.{IsDemand, Suffices, IsFeasible, IsOverload}

-- A greatest weight is one.
pub weight-one : (graph : List Edge) (Fits : List Edge → Type 0) (n m : ℕ) → IsGreatestWeight graph Fits n → IsGreatestWeight graph Fits m → n ≡ m
weight-one graph Fits n m is is' =
    let l : n ≤ m = subst (λ w. w ≤ m) is.one.3 (is'.most is.one.0 is.one.1 is.one.2) in
    let l' : m ≤ n = subst (λ w. w ≤ n) is'.one.3 (is.most is'.one.0 is'.one.1 is'.one.2) in
    omega (arith, l, l')

-- The demand over a length is one.
pub demand-one : (graphs : List (List Edge)) (within n m : ℕ) → IsDemand graphs within n → IsDemand graphs within m → n ≡ m
demand-one [] within n m is is' = omega (arith, is, is')
demand-one (graph ∷ rest) within n m is is' =
    let first : is.0 ≡ is'.0 = weight-one graph (FitsDueLast within) is.0 is'.0 is.2 is'.2 in
    let others : is.1 ≡ is'.1 = demand-one rest within is.1 is'.1 is.3 is'.3 in
    omega (arith, first, others, is.4, is'.4)

-- It is there where each graph has a greatest weight of the paths that fit the length.
pub demand-some : (graphs : List (List Edge)) (within : ℕ) → ((i : ℕ) (graph : List Edge) → slice_get graphs i ≡ Some graph → (n : ℕ) × IsGreatestWeight graph (FitsDueLast within) n) → (n : ℕ) × IsDemand graphs within n
demand-some [] within each = (0, refl)
demand-some (graph ∷ rest) within each =
    let first = each 0 graph refl in
    let others = demand-some rest within (λ i graph' at. each (suc i) graph' at) in
    (first.0 + others.0, (first.0, others.0, first.1, others.1, refl))

-- Agents that are feasible up to a length are so up to one more, or have an overload there.
feasible-more : (graphs : List (List Edge)) (quantum top demand : ℕ) → IsFeasible graphs quantum top → IsDemand graphs (suc top) demand → IsFeasible graphs quantum (suc top) ⊎ IsOverload graphs quantum (suc top) (suc top) demand
feasible-more graphs quantum top demand feasible is =
    elim (cases_lt (quantum * suc top) demand) [
      | inl passes ↦ inr (record {
        some = omega arith;
        within = omega arith;
        is_demand = is;
        passes = passes;
        least = λ less above before. feasible less above (omega (arith, before));
      })
      | inr fits ↦ inl (λ within above below. elim (cases_eq within (suc top)) [
        | inl same ↦ subst (Suffices graphs quantum) (sym same) (demand, is, omega (arith, fits))
        | inr other ↦ feasible within above (omega (arith, below, other))
      ])
    ]

-- An overload up to a length is one up to one more.
overload-more : (graphs : List (List Edge)) (quantum top within demand : ℕ) → IsOverload graphs quantum top within demand → IsOverload graphs quantum (suc top) within demand
overload-more graphs quantum top within demand overload =
    record {
      some = overload.some;
      within = omega (arith, overload.within);
      is_demand = overload.is_demand;
      passes = overload.passes;
      least = overload.least;
    }

-- Where the demands up to a length are there, agents are feasible up to it or have an overload.
pub feasible-or-overload : (graphs : List (List Edge)) (quantum top : ℕ) → ((within : ℕ) → 1 ≤ within → within ≤ top → (n : ℕ) × IsDemand graphs within n) → IsFeasible graphs quantum top ⊎ ((within demand : ℕ) × IsOverload graphs quantum top within demand)
feasible-or-overload graphs quantum zero each = inl (λ within above below. absurd (omega (arith, above, below)))
feasible-or-overload graphs quantum (suc top) each =
    let last = each (suc top) (omega arith) (omega arith) in
    elim (feasible-or-overload graphs quantum top (λ within above below. each within above (omega (arith, below)))) [
      | inl feasible ↦ elim (feasible-more graphs quantum top last.0 feasible last.1) [
        | inl more ↦ inl more
        | inr overload ↦ inr (suc top, last.0, overload)
      ]
      | inr some ↦ inr (some.0, some.1, overload-more graphs quantum top some.0 some.1 some.2)
    ]

-- Over the length of an overload the demand doesn't suffice.
pub overload-passes : (graphs : List (List Edge)) (quantum top within demand : ℕ) → IsOverload graphs quantum top within demand → Suffices graphs quantum within → ⊥
overload-passes graphs quantum top within demand overload fits =
    let same : demand ≡ fits.0 = demand-one graphs within demand fits.0 overload.is_demand fits.1 in
    absurd (omega (arith, same, overload.passes, fits.2))

-- Feasible agents have no overload.
pub feasible-no-overload : (graphs : List (List Edge)) (quantum top within demand : ℕ) → IsFeasible graphs quantum top → IsOverload graphs quantum top within demand → ⊥
feasible-no-overload graphs quantum top within demand feasible overload =
    overload-passes graphs quantum top within demand overload (feasible within overload.some overload.within)

-- An overload is one.
pub overload-one : (graphs : List (List Edge)) (quantum top l m d e : ℕ) → IsOverload graphs quantum top l d → IsOverload graphs quantum top m e → (l ≡ m) × (d ≡ e)
overload-one graphs quantum top l m d e is is' =
    elim (cases_lt l m) [
      | inl before ↦ absurd (overload-passes graphs quantum top l d is (is'.least l is.some before))
      | inr not_before ↦ elim (cases_lt m l) [
        | inl before ↦ absurd (overload-passes graphs quantum top m e is' (is.least m is'.some before))
        | inr not_behind ↦ (
            let same : l ≡ m = omega (arith, not_before, not_behind) in
            (same, demand-one graphs m d e (subst (λ w. IsDemand graphs w d) same is.is_demand) is'.is_demand))
      ]
    ]

-- Each list has, by length up to a greatest one, the greatest weights of the paths of its graph that fit.
abbrev pub AreGreatest : List (List Edge) → List (List ℕ) → ℕ → Type 0
AreGreatest graphs lists top = (i : ℕ) (graph : List Edge) (list : List ℕ) → slice_get graphs i ≡ Some graph → slice_get lists i ≡ Some list → (within : ℕ) → within ≤ top → IsGreatestWeight graph (FitsDueLast within) (slice_index list within)

-- What they have at a length sums to the demand over it.
pub demand-is : (graphs : List (List Edge)) (lists : List (List ℕ)) (top : ℕ) → length lists ≡ length graphs → AreGreatest graphs lists top → (within : ℕ) → within ≤ top → IsDemand graphs within (sum_by (λ list. slice_index list within) lists)
demand-is [] [] top long each within less = refl
demand-is [] (list ∷ lists) top long each within less = absurd (omega (arith, long))
demand-is (graph ∷ graphs) [] top long each within less = absurd (omega (arith, long))
demand-is (graph ∷ graphs) (list ∷ lists) top long each within less =
    let at : List ℕ → ℕ = λ list'. slice_index list' within in
    let others : IsDemand graphs within (sum_by at lists) = demand-is graphs lists top (omega (arith, long)) (λ i. each (suc i)) within less in
    (at list, sum_by at lists, each 0 graph list refl refl within less, others, sum_by-cons at list lists)

-- Where these sums are small enough, the agents are feasible.
pub feasible-is : (graphs : List (List Edge)) (lists : List (List ℕ)) (quantum top : ℕ) → length lists ≡ length graphs → AreGreatest graphs lists top → ((within : ℕ) → 1 ≤ within → within ≤ top → sum_by (λ list. slice_index list within) lists ≤ quantum * within) → IsFeasible graphs quantum top
feasible-is graphs lists quantum top long each fits within above below =
    (sum_by (λ list. slice_index list within) lists, demand-is graphs lists top long each within below, fits within above below)

-- The first that is too great is an overload.
pub overload-is : (graphs : List (List Edge)) (lists : List (List ℕ)) (quantum top within demand : ℕ) → length lists ≡ length graphs → AreGreatest graphs lists top → 1 ≤ within → within ≤ top → demand ≡ sum_by (λ list. slice_index list within) lists → quantum * within < demand
    → ((less : ℕ) → 1 ≤ less → less < within → sum_by (λ list. slice_index list less) lists ≤ quantum * less) → IsOverload graphs quantum top within demand
overload-is graphs lists quantum top within demand long each above below is passes least =
    record {
      some = above;
      within = below;
      is_demand = subst (IsDemand graphs within) (sym is) (demand-is graphs lists top long each within below);
      passes = passes;
      least = λ less above' before. (sum_by (λ list. slice_index list less) lists, demand-is graphs lists top long each less (omega (arith, before, below)), least less above' before);
    }
