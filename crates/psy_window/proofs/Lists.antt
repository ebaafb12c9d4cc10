-- The list of the weights, as it grows.
use Rattle.std.proofs.Common.{◌≡◌, ℕ, zero, suc, ◌+◌, ◌*◌, ◌^◌, ◌<◌, ◌≤◌, List, [], ◌∷◌, ◌++◌, length, get_or, All, refl, sym, subst, ◌∙◌, inl, inr, arith}
use Rattle.std.proofs.lemmas.Bool.{cases_eq}
use Rattle.std.proofs.lemmas.List.{get_or_append_left, get_or_push}
use Rattle.std.proofs.lemmas.List.Elements.{All-contains}
use Rattle.std.proofs.Math.Nat.{suc-mul}
use Rattle.psy_base.specs.declared.edge.Edge.{Edge}
use Rattle.psy_base.specs.declared.limits.TheConstants.{BUDGET, WINDOW_CELLS}
use Rattle.psy_base.specs.Paths.{IsPathFrom, IsGreatestWeight, weight_of}
use Rattle.psy_window.specs.declared.span.Span.{Span}
use Rattle.psy_window.specs.Windows.{IsEdge, Fits}

-- One weight more.
pub weights_more : (graph : List Edge) (span : Span) (count weight : ℕ) (weights : List ℕ) → length weights ≡ count → ((within : ℕ) → within < count → IsGreatestWeight graph (Fits span within) (get_or weights within 0)) → IsGreatestWeight graph (Fits span count) weight
    → (within : ℕ) → within < count + 1 → IsGreatestWeight graph (Fits span within) (get_or (weights ++ weight ∷ []) within 0)
weights_more graph span count weight weights long before greatest within less =
    let P : ℕ → Type 0 = λ v. IsGreatestWeight graph (Fits span within) v in
    elim (cases_eq within count) [
      | inl same ↦ (
          let Q : ℕ → Type 0 = λ m. IsGreatestWeight graph (Fits span m) weight in
          subst P (sym (get_or_push weights weight 0 within (omega (arith, long, same)))) (subst Q (sym same) greatest))
      | inr other ↦ subst P (sym (get_or_append_left weights (weight ∷ []) 0 within (omega (arith, less, other, long)))) (before within (omega (arith, less, other)))
    ]

-- Without nodes there is the empty path alone.
no_nodes : (graph : List Edge) (node : ℕ) (path : List Edge) → All (IsEdge 0) graph → IsPathFrom graph node path → weight_of path ≡ 0
no_nodes graph node [] edges is = refl
no_nodes graph node (e ∷ path) edges is = absurd (omega (arith, (All-contains (IsEdge 0) graph e edges is.0).from))

-- A table of few cells has few lengths, and so no great weight.
pub weight_small : (graph : List Edge) (Fit : List Edge → Type 0) (nodes top within n : ℕ) → All (IsEdge nodes) graph → nodes * (top + 1) ≤ WINDOW_CELLS → within ≤ top → IsGreatestWeight graph Fit n → n ≤ BUDGET * (within + 1) → n < 2 ^ 50
weight_small graph Fit zero top within n edges cells less greatest small =
    let e : n ≡ 0 = sym greatest.one.3 ∙ no_nodes graph greatest.one.1.0 greatest.one.0 edges greatest.one.1.1 in
    omega (arith, e)
weight_small graph Fit (suc nodes) top within n edges cells less greatest small =
    let e : suc nodes * (top + 1) ≡ nodes * (top + 1) + (top + 1) = suc-mul nodes (top + 1) in
    omega (arith, e, cells, less, small)
