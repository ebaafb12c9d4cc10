-- A number that a closed path passes; and bounds on what paths of few edges allow.
use Rattle.std.proofs.Common.{◌≡◌, ◌⊎◌, ℕ, zero, suc, ◌+◌, ◌*◌, ◌<◌, ◌≤◌, List, [], ◌∷◌, length, get_or, All, ap, ◌∙◌, inl, inr, arith}
use Rattle.std.proofs.lemmas.Bool.{cases_lt}
use Rattle.std.proofs.lemmas.List.Elements.{All-contains}
use Rattle.std.proofs.lemmas.Nat.{mul-le}
use Rattle.std.proofs.Math.Nat.{mul-add}
use Rattle.psy_base.specs.declared.edge.Edge.{Edge}
use Rattle.psy_base.specs.declared.limits.TheConstants.{BUDGET}
use Rattle.psy_base.specs.Paths.{IsPathFrom, weight_of, length_of}
use Rattle.psy_rate.specs.Lines.{IsClosed, Allows, IsIntercept, due_of}
use Rattle.psy_rate.specs.Rows.{IsWithin, IsRow, IsCell}
use Rattle.psy_rate.specs.Trials.{IsPassed}
use Rattle.psy_rate.specs.declared.line.TheConstants.{SCALE}
use Rattle.psy_rate.proofs.Cuts.{IsCut, cut}
use Rattle.psy_window.specs.Windows.{IsEdge}

-- A closed path that passes the rate passes each number below the next.
passed_one : (graph : List Edge) (rate : ℕ) (path : List Edge) → IsClosed graph path → rate * length_of path < SCALE * weight_of path → IsPassed graph rate (rate + 1)
passed_one graph rate path closed passes =
    record {
      above = omega arith;
      path = path;
      closed = closed;
      passes = λ less below. (
          let l : less * length_of path ≤ rate * length_of path = mul-le less (length_of path) rate (length_of path) (omega (arith, below)) (omega arith) in
          omega (arith, l, passes));
    }

-- No number below is allowed.
pub passed_least : (graph : List Edge) (rate next less : ℕ) → IsPassed graph rate next → Allows graph less → next ≤ less
passed_least graph rate next less passed allows =
    elim (cases_lt less next) [
      | inl below ↦ absurd (omega (arith, passed.passes less below, allows passed.path passed.closed))
      | inr above ↦ above
    ]

-- What is above the paths of a node of at most as many edges as there are nodes is above all its paths, or the rate is passed.
all_paths : (graph : List Edge) (nodes rate n node : ℕ) → All (IsEdge nodes) graph → ((path : List Edge) → IsPathFrom graph node path → length path ≤ nodes → IsWithin rate n path)
    → (count : ℕ) (path : List Edge) → IsPathFrom graph node path → length path ≤ count → IsWithin rate n path ⊎ IsPassed graph rate (rate + 1)
all_paths graph nodes rate n node edges most zero path is short = inl (most path is (omega (arith, short)))
all_paths graph nodes rate n node edges most (suc count) path is short =
    elim (cases_lt nodes (length path)) [
      | inr few ↦ inl (most path is few)
      | inl many ↦ (
          let part : IsCut graph node path = cut graph nodes node path edges is many in
          elim (cases_lt (rate * length_of part.loop) (SCALE * weight_of part.loop)) [
            | inl passes ↦ inr (passed_one graph rate part.loop part.closed passes)
            | inr allowed ↦ elim (all_paths graph nodes rate n node edges most count part.rest part.is_path (omega (arith, part.shorter, short))) [
              | inl rest ↦ (
                  let due : rate * due_of path ≡ rate * length_of part.loop + rate * due_of part.rest = ap (λ d. rate * d) part.due ∙ mul-add rate (length_of part.loop) (due_of part.rest) in
                  inl (omega (arith, part.weight, due, allowed, rest)))
              | inr passed ↦ inr passed
            ]
          ])
    ]

-- A cell that still grows where it was above all paths of as many edges as there are nodes
pub grown : (graph : List Edge) (rate count node : ℕ) (before row : List ℕ) → All (IsEdge (length before)) graph → length before ≤ count → length row ≡ length before → node < length row → get_or before node 0 < get_or row node 0
    → IsRow graph 0 rate count before → IsRow graph 0 rate (count + 1) row → IsPassed graph rate (rate + 1)
grown graph rate count node before row edges many size inside grew old new =
    let b : ℕ = get_or before node 0 in
    let n : ℕ = get_or row node 0 in
    let was : IsCell graph 0 rate count node b = old node (omega (arith, inside, size)) in
    let is : IsCell graph 0 rate (count + 1) node n = new node inside in
    elim (all_paths graph (length before) rate b node edges (λ path is_path short. was.most path is_path (omega (arith, short, many))) (length is.one.0) is.one.0 is.one.1 (omega arith)) [
      | inl within ↦ absurd (omega (arith, within, is.one.2, grew))
      | inr passed ↦ passed
    ]

-- A path weighs at most a budget an edge,
weight_small : (graph : List Edge) (nodes node : ℕ) (path : List Edge) → All (IsEdge nodes) graph → IsPathFrom graph node path → weight_of path ≤ BUDGET * length path
weight_small graph nodes node [] edges is = omega arith
weight_small graph nodes node (e ∷ path) edges is =
    let rest : weight_of path ≤ BUDGET * length path = weight_small graph nodes e.to path edges is.2 in
    omega (arith, rest, (All-contains (IsEdge nodes) graph e edges is.0).weight)

-- And is at least a tick an edge long.
length_small : (graph : List Edge) (nodes node : ℕ) (path : List Edge) → All (IsEdge nodes) graph → IsPathFrom graph node path → length path ≤ length_of path
length_small graph nodes node [] edges is = omega arith
length_small graph nodes node (e ∷ path) edges is =
    let rest : length path ≤ length_of path = length_small graph nodes e.to path edges is.2 in
    let edge : IsEdge nodes e = All-contains (IsEdge nodes) graph e edges is.0 in
    omega (arith, rest, edge.after, edge.due)

-- So a budget a tick is always allowed,
allows_budgets : (graph : List Edge) (nodes : ℕ) → All (IsEdge nodes) graph → Allows graph (SCALE * BUDGET)
allows_budgets graph nodes edges [] closed = absurd closed
allows_budgets graph nodes edges (e ∷ path) closed = omega (arith, weight_small graph nodes e.from (e ∷ path) edges closed.0, length_small graph nodes e.from (e ∷ path) edges closed.0)

-- And the rate is no more.
pub rate_small : (graph : List Edge) (nodes rate : ℕ) → All (IsEdge nodes) graph → ((less : ℕ) → Allows graph less → rate ≤ less) → rate ≤ SCALE * BUDGET
rate_small graph nodes rate edges least = least (SCALE * BUDGET) (allows_budgets graph nodes edges)

-- A closed path that passes the rate contradicts that it is allowed.
not_both : (graph : List Edge) (rate : ℕ) → Allows graph rate → IsPassed graph rate (rate + 1) → ⊥
not_both graph rate allows passed = let l : rate + 1 ≤ rate = passed_least graph rate (rate + 1) rate passed allows in omega (arith, l)

-- The intercept is at most a budget a node.
pub intercept_small : (graph : List Edge) (nodes rate n : ℕ) → All (IsEdge nodes) graph → Allows graph rate → IsIntercept graph rate n → n ≤ SCALE * BUDGET * nodes
intercept_small graph nodes rate n edges allows intercept =
    let path : List Edge = intercept.one.0 in
    let node : ℕ = intercept.one.1.0 in
    let short : (path : List Edge) → IsPathFrom graph node path → length path ≤ nodes → IsWithin rate (SCALE * BUDGET * nodes) path = λ path is few. omega (arith, weight_small graph nodes node path edges is, few) in
    elim (all_paths graph nodes rate (SCALE * BUDGET * nodes) node edges short (length path) path intercept.one.1.1 (omega arith)) [
      | inl within ↦ omega (arith, within, intercept.one.2)
      | inr passed ↦ absurd (not_both graph rate allows passed)
    ]
