-- A settled row shows that the rate is allowed, and its greatest cell is the intercept. No closed path is looked for.
use Rattle.std.proofs.Common.{◌≡◌, ◌⊎◌, ℕ, ◌+◌, ◌*◌, ◌<◌, ◌≤◌, List, [], ◌∷◌, length, get_or, max, sym, subst, inl, inr, arith}
use Rattle.std.specs.List.{Contains}
use Rattle.std.proofs.lemmas.Bool.{cases_eq, cases_lt}
use Rattle.std.proofs.Math.Nat.{mul-add}
use Rattle.psy_base.specs.declared.edge.Edge.{Edge}
use Rattle.psy_base.specs.Paths.{IsPathFrom, weight_of, length_of}
use Rattle.psy_rate.specs.Lines.{Allows, IsIntercept, end_of}
use Rattle.psy_rate.specs.Rows.{excess, IsWithin, IsSettled, IsRow, IsGreatest}
use Rattle.psy_rate.specs.declared.line.TheConstants.{SCALE}
use Rattle.psy_rate.proofs.Excesses.{within_more, within_nil, within_cons}

-- The greatest of the cells that were looked at, and one more.
pub greatest_more : (row : List ℕ) (seen n m : ℕ) → seen < length row → m ≡ max n (get_or row seen 0) → IsGreatest row seen n → IsGreatest row (seen + 1) m
greatest_more row seen n m inside is greatest =
    record {
      most = λ node less. elim (cases_eq node seen) [
        | inl same ↦ subst (λ i. get_or row i 0 ≤ m) (sym same) (omega (arith, is))
        | inr other ↦ omega (arith, is, greatest.most node (omega (arith, less, other)))
      ];
      one = elim (cases_lt n (get_or row seen 0)) [
        | inl l ↦ inr (seen, inside, omega (arith, l, is))
        | inr l ↦ (
            let same : n ≡ m = omega (arith, l, is) in
            subst (λ v. (v ≡ 0) ⊎ ((node : ℕ) × (node < length row) × (get_or row node 0 ≡ v))) same greatest.one)
      ];
    }

module _ (graph : List Edge) (rate : ℕ) (row : List ℕ) (settled : IsSettled graph (length graph) rate row) where
  -- A settled row's cells are at least what each edge gives.
  potential : (e : Edge) → Contains graph e → excess rate e (get_or row e.to 0) ≤ get_or row e.from 0
  potential e in' = settled e (in'.0, in'.1, omega arith, in'.2)

  -- They are at least each path's excess,
  pub due_bound : (node : ℕ) (path : List Edge) → IsPathFrom graph node path → IsWithin rate (get_or row node 0) path
  due_bound node [] is = within_nil rate (get_or row node 0)
  due_bound node (e ∷ path) is =
      let within : IsWithin rate (get_or row e.from 0) (e ∷ path) = within_cons rate (get_or row e.to 0) (get_or row e.from 0) e path (due_bound e.to path is.2) (potential e is.0) in
      subst (λ m. IsWithin rate (get_or row m 0) (e ∷ path)) is.1 within

  -- and along a path they fall by no more than the rate allows.
  length_bound : (node : ℕ) (path : List Edge) → IsPathFrom graph node path → SCALE * weight_of path + get_or row (end_of node path) 0 ≤ rate * length_of path + get_or row node 0
  length_bound node [] is = omega arith
  length_bound node (e ∷ path) is =
      let rest : SCALE * weight_of path + get_or row (end_of e.to path) 0 ≤ rate * length_of path + get_or row e.to 0 = length_bound e.to path is.2 in
      let here : excess rate e (get_or row e.to 0) ≤ get_or row e.from 0 = potential e is.0 in
      let long : rate * (e.len + length_of path) ≡ rate * e.len + rate * length_of path = mul-add rate e.len (length_of path) in
      let whole : SCALE * (e.weight + weight_of path) + get_or row (end_of e.to path) 0 ≤ rate * (e.len + length_of path) + get_or row e.from 0 = omega (arith, rest, here, long) in
      subst (λ m. SCALE * (e.weight + weight_of path) + get_or row (end_of e.to path) 0 ≤ rate * (e.len + length_of path) + get_or row m 0) is.1 whole

  pub allowed : Allows graph rate
  allowed [] closed = absurd closed
  allowed (e ∷ path) closed =
      let whole : SCALE * weight_of (e ∷ path) + get_or row (end_of e.from (e ∷ path)) 0 ≤ rate * length_of (e ∷ path) + get_or row e.from 0 = length_bound e.from (e ∷ path) closed.0 in
      let back : SCALE * weight_of (e ∷ path) + get_or row e.from 0 ≤ rate * length_of (e ∷ path) + get_or row e.from 0 = subst (λ m. SCALE * weight_of (e ∷ path) + get_or row m 0 ≤ rate * length_of (e ∷ path) + get_or row e.from 0) closed.1 whole in
      omega (arith, back)

-- The greatest cell is the intercept.
pub intercept : (graph : List Edge) (rate count n : ℕ) (row : List ℕ) → ((e : Edge) → Contains graph e → e.from < length row) → IsSettled graph (length graph) rate row → IsRow graph 0 rate count row → IsGreatest row (length row) n → IsIntercept graph rate n
intercept graph rate count n row inside settled cells greatest =
    record {
      most = λ path is. above is.0 path is.1;
      one = elim greatest.one [
        | inl none ↦ ([], (0, tt), omega (arith, none))
        | inr some ↦ (
            let cell = cells some.0 some.1 in
            (cell.one.0, (some.0, cell.one.1), omega (arith, cell.one.2, some.2)))
      ];
    }
  where
    above : (node : ℕ) (path : List Edge) → IsPathFrom graph node path → IsWithin rate n path
    above node [] is = within_nil rate n
    above node (e ∷ path) is =
        let l : node < length row = subst (λ m. m < length row) is.1 (inside e is.0) in
        within_more rate (get_or row node 0) n (e ∷ path) (greatest.most node l) (due_bound graph rate row settled node (e ∷ path) is)
