-- Processors can supply what their agents may demand, or have an overload, one and not both.
use Rattle.std.proofs.Common.{◌≡◌, ℕ, ◌*◌, ◌<◌, List, inl, inr, subst, arith}
use Rattle.std.proofs.lemmas.Bool.{cases_lt}
use Rattle.psy_base.specs.declared.edge.Edge.{Edge}
use Rattle.psy_meaning.specs.Demand.{AreFeasible, IsDemand, IsOverloadOn, Suffices, edges_on}
use Rattle.psy_meaning.proofs.lemmas.Demands.{demand-one}

-- A demand that passes the supply doesn't suffice.
passes_not : (graphs : List (List Edge)) (quantum within demand : ℕ) → IsDemand graphs within demand → quantum * within < demand → Suffices graphs quantum within → ⊥
passes_not graphs quantum within demand is passes fits =
    let same : demand ≡ fits.0 = demand-one graphs within demand fits.0 is fits.1 in
    absurd (omega (arith, same, passes, fits.2))

module _ (homes : List ℕ) (graphs : List (List Edge)) (quantum top : ℕ) where
  -- Processors that can supply what their agents may demand have no overload.
  pub feasible_no_overload_on : (within processor demand : ℕ) → AreFeasible homes graphs quantum top → IsOverloadOn homes graphs quantum top within processor demand → ⊥
  feasible_no_overload_on within processor demand feasible over =
      passes_not (edges_on homes processor graphs) quantum within demand over.is_demand over.passes (feasible processor over.known within over.some over.within)

  -- No overload is over a shorter length than another,
  no_shorter : (l p d m q e : ℕ) → IsOverloadOn homes graphs quantum top l p d → IsOverloadOn homes graphs quantum top m q e → l < m → ⊥
  no_shorter l p d m q e is other before = passes_not (edges_on homes p graphs) quantum l d is.is_demand is.passes (other.least l p is.some before is.known)

  -- Nor over the same length on a lesser processor.
  no_lesser : (l p d q e : ℕ) → IsOverloadOn homes graphs quantum top l p d → IsOverloadOn homes graphs quantum top l q e → p < q → ⊥
  no_lesser l p d q e is other before = passes_not (edges_on homes p graphs) quantum l d is.is_demand is.passes (other.first p before)

  -- Where their length is one, so are their processors and their demands.
  same_length : (l p d q e : ℕ) → IsOverloadOn homes graphs quantum top l p d → IsOverloadOn homes graphs quantum top l q e → (p ≡ q) × (d ≡ e)
  same_length l p d q e is other = elim (cases_lt p q) [
    | inl before ↦ absurd (no_lesser l p d q e is other before)
    | inr not_before ↦ elim (cases_lt q p) [
      | inl before ↦ absurd (no_lesser l q e p d other is before)
      | inr not_behind ↦ (
          let same : p ≡ q = omega (arith, not_before, not_behind) in
          (same, demand-one (edges_on homes q graphs) l d e (subst (λ r. IsDemand (edges_on homes r graphs) l d) same is.is_demand) other.is_demand))
    ]
  ]

  -- An overload is one.
  pub overload_on_one : (l p d m q e : ℕ) → IsOverloadOn homes graphs quantum top l p d → IsOverloadOn homes graphs quantum top m q e → (l ≡ m) × (p ≡ q) × (d ≡ e)
  overload_on_one l p d m q e is other = elim (cases_lt l m) [
    | inl before ↦ absurd (no_shorter l p d m q e is other before)
    | inr not_before ↦ elim (cases_lt m l) [
      | inl before ↦ absurd (no_shorter m q e l p d other is before)
      | inr not_behind ↦ (
          let same : l ≡ m = omega (arith, not_before, not_behind) in
          let rest = same_length m p d q e (subst (λ k. IsOverloadOn homes graphs quantum top k p d) same is) other in
          (same, rest.0, rest.1))
    ]
  ]
