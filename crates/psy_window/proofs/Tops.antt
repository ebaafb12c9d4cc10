-- The greatest of what a loop has met.
use Rattle.std.proofs.Common.{◌≡◌, ◌⊎◌, ℕ, ◌+◌, ◌*◌, ◌<◌, ◌≤◌, List, [], ◌∷◌, length, get_or, max, All, refl, sym, subst, ◌∙◌, inl, inr, arith}
use Rattle.std.specs.List.{Contains}
use Rattle.std.proofs.lemmas.Bool.{cases_eq, cases_lt}
use Rattle.std.proofs.lemmas.List.{get_or_default}
use Rattle.std.proofs.lemmas.List.Elements.{Contains-get_or, All-contains}
use Rattle.psy_base.specs.declared.edge.Edge.{Edge}
use Rattle.psy_base.specs.declared.limits.TheConstants.{BUDGET}
use Rattle.psy_base.specs.Paths.{IsPathFrom, IsGreatestWeight, weight_of}
use Rattle.psy_window.specs.declared.span.Span.{Span}
use Rattle.psy_window.specs.declared.span.Span.TheVariants.{DueLast, FirstFree}
use Rattle.psy_window.specs.Table.{IsRow, IsTop, behind}
use Rattle.psy_window.specs.Windows.{IsEdge, Fits}
use Rattle.psy_window.proofs.Cells.{cell_above}

-- Before the first item.
pub top_none : {X : Type 0} (f : X → ℕ) (items : List X) → IsTop f items 0 0
top_none f items = record { most = λ i d less. omega (arith, less); one = inl refl }

-- One item more.
pub top_more : (X : Type 0) (f : X → ℕ) (items : List X) (seen n m : ℕ) (d : X) → seen < length items → m ≡ max n (f (get_or items seen d)) → IsTop f items seen n → IsTop f items (seen + 1) m
top_more X f items seen n m d less is top =
    record {
      most = λ i e small. elim (cases_eq i seen) [
        | inl same ↦ (
            let P : ℕ → Type 0 = λ j. f (get_or items j e) ≤ m in
            let there : f (get_or items seen e) ≤ m = rw (get_or_default items seen e d less) (omega (arith, is)) in
            subst P (sym same) there)
        | inr other ↦ (let l : f (get_or items i e) ≤ n = top.most i e (omega (arith, small, other)) in omega (arith, l, is))
      ];
      one = elim (cases_lt n (f (get_or items seen d))) [
        | inl l ↦ inr (get_or items seen d, Contains-get_or items seen d less, omega (arith, l, is))
        | inr l ↦ (
            let same : n ≡ m = omega (arith, l, is) in
            subst (λ v. (v ≡ 0) ⊎ ((item : X) × Contains items item × (f item ≡ v))) same top.one)
      ];
    }

-- By its last deadline a path fits where a cell of the row has room for it.
pub greatest_due : (graph : List Edge) (nodes within n : ℕ) (row : List ℕ) → All (IsEdge nodes) graph → length row ≡ nodes → IsRow graph (length graph) nodes DueLast within row → IsTop (λ cell. cell) row (length row) n → IsGreatestWeight graph (Fits DueLast within) n
greatest_due graph nodes within n row edges long cells top =
    record {
      most = λ path is fits. due_most is.0 path is.1 fits;
      one = elim top.one [
        | inl none ↦ ([], (0, tt), tt, sym none)
        | inr some ↦ (
            let cell = cells some.1.0 (omega (arith, some.1.1)) in
            (cell.one.0, (some.1.0, cell.one.1), cell.one.2, cell.one.3 ∙ get_or_default row some.1.0 0 some.0 some.1.1 ∙ some.1.2 ∙ some.2))
      ];
    }
  where
    due_most : (node : ℕ) (path : List Edge) → IsPathFrom graph node path → Fits DueLast within path → weight_of path ≤ n
    due_most node [] is fits = omega arith
    due_most node (e ∷ path) is fits =
        let edge : IsEdge nodes e = All-contains (IsEdge nodes) graph e edges is.0 in
        let inside : node < nodes = omega (arith, edge.from, is.1) in
        let l : weight_of (e ∷ path) ≤ get_or row node 0 = cell_above graph DueLast within node (get_or row node 0) (e ∷ path) (cells node inside) is fits in
        omega (arith, l, top.most node 0 (omega (arith, inside, long)))

-- The cells of a row are small.
pub row_small : (graph : List Edge) (nodes : ℕ) (span : Span) (within n : ℕ) (row : List ℕ) → length row ≡ nodes → IsRow graph (length graph) nodes span within row → IsTop (λ cell. cell) row (length row) n → n ≤ BUDGET * (within + 1)
row_small graph nodes span within n row long cells top =
    elim top.one [
      | inl none ↦ omega (arith, none)
      | inr some ↦ (
          let cell = cells some.1.0 (omega (arith, some.1.1)) in
          omega (arith, cell.small, get_or_default row some.1.0 0 some.0 some.1.1, some.1.2, some.2))
    ]

-- With its first edge free a path fits where the cell behind that edge has room for the rest.
pub greatest_free : (graph : List Edge) (nodes within n : ℕ) (row : List ℕ) → All (IsEdge nodes) graph → IsRow graph (length graph) nodes FirstFree within row → IsTop (behind row) graph (length graph) n → IsGreatestWeight graph (Fits FirstFree within) n
greatest_free graph nodes within n row edges cells top =
    record {
      most = λ path is fits. free_most is.0 path is.1 fits;
      one = elim top.one [
        | inl none ↦ ([], (0, tt), tt, sym none)
        | inr some ↦ (
            let e = some.0 in
            let edge : IsEdge nodes e = All-contains (IsEdge nodes) graph e edges some.1 in
            let cell = cells e.to edge.to in
            (e ∷ cell.one.0, (e.from, (some.1, refl, cell.one.1)), cell.one.2, omega (arith, cell.one.3, some.2)))
      ];
    }
  where
    free_most : (node : ℕ) (path : List Edge) → IsPathFrom graph node path → Fits FirstFree within path → weight_of path ≤ n
    free_most node [] is fits = omega arith
    free_most node (e ∷ path) is fits =
        let edge : IsEdge nodes e = All-contains (IsEdge nodes) graph e edges is.0 in
        let rest : weight_of path ≤ get_or row e.to 0 = cell_above graph FirstFree within e.to (get_or row e.to 0) path (cells e.to edge.to) is.2 fits in
        let whole : behind row (get_or graph is.0.0 e) ≤ n = top.most is.0.0 e is.0.1 in
        let here : behind row e ≤ n = subst (λ f. behind row f ≤ n) is.0.2 whole in
        omega (arith, here, rest)
