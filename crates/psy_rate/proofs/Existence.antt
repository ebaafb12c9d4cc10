-- The line of a graph is there, for the passes can be made whatever the graph; and it is one.
use Rattle.std.proofs.Common.{◌≡◌, ◌⊎◌, ℕ, zero, suc, ◌+◌, ◌*◌, ◌<◌, ◌≤◌, List, Option, Some, None, length, get_or, set, max, replicate, All, add-one, refl, ap, sym, subst, ◌∙◌, inl, inr, arith}
use Rattle.std.specs.List.{Contains}
use Rattle.std.proofs.lemmas.Bool.{cases_lt}
use Rattle.std.proofs.lemmas.List.{get_or-replicate, length-replicate}
use Rattle.std.proofs.lemmas.List.Elements.{All-contains}
use Rattle.psy_base.specs.declared.edge.Edge.{Edge}
use Rattle.psy_base.specs.declared.limits.TheConstants.{BUDGET, EDGES}
use Rattle.psy_rate.specs.Lines.{Allows, IsIntercept, IsRateOf}
use Rattle.psy_rate.specs.Rows.{excess, IsRow, HasGone, IsGreatest}
use Rattle.psy_rate.specs.Trials.{IsPassed}
use Rattle.psy_rate.specs.declared.line.Rate.{Rate}
use Rattle.psy_rate.specs.declared.line.TheConstants.{SCALE}
use Rattle.psy_rate.proofs.Cells.{row_none, row_done}
use Rattle.psy_rate.proofs.Goings.{gone_none}
use Rattle.psy_rate.proofs.Passed.{grown, passed_least, rate_small}
use Rattle.psy_rate.proofs.Potentials.{greatest_more, allowed, intercept}
use Rattle.psy_rate.proofs.Steps.{next_of, next_stays, next_grows, stays_gone, grows_gone}
use Rattle.psy_window.specs.Windows.{IsEdge}

-- A row after the last `seen` edges, beside the one before them
record IsGoing (graph : List Edge) (seen rate count : ℕ) (before : List ℕ) : Type 0 where
  row : List ℕ
  last : Option ℕ
  cells : IsRow graph seen rate count row
  gone : HasGone graph seen rate before row last

-- A row takes in edge after edge.
going_some : (graph : List Edge) (rate count : ℕ) (before : List ℕ) → All (IsEdge (length before)) graph → IsRow graph 0 rate count before → (seen : ℕ) → seen ≤ length graph → IsGoing graph seen rate count before
going_some graph rate count before edges cells zero less = record { row = before; last = None; cells = cells; gone = gone_none graph rate before }
going_some graph rate count before edges cells (suc seen) less =
    let going : IsGoing graph seen rate count before = going_some graph rate count before edges cells seen (omega (arith, less)) in
    let here : seen < length graph = omega (arith, less) in
    let all : All (IsEdge (length going.row)) graph = subst (λ n. All (IsEdge n) graph) (sym going.gone.size) edges in
    let next : IsGoing graph (seen + 1) rate count before = elim (cases_lt (get_or going.row (next_of graph seen).from 0) (excess rate (next_of graph seen) (get_or going.row (next_of graph seen).to 0))) [
      | inl grew ↦ record {
        row = set going.row (next_of graph seen).from (excess rate (next_of graph seen) (get_or going.row (next_of graph seen).to 0));
        last = Some (next_of graph seen).from;
        cells = next_grows graph seen rate going.row here all count (excess rate (next_of graph seen) (get_or going.row (next_of graph seen).to 0)) refl grew going.cells;
        gone = grows_gone graph seen rate going.row here all before going.last (excess rate (next_of graph seen) (get_or going.row (next_of graph seen).to 0)) grew going.gone;
      }
      | inr stays ↦ record {
        row = going.row;
        last = going.last;
        cells = next_stays graph seen rate going.row here all count stays going.cells;
        gone = stays_gone graph seen rate going.row here all before going.last stays going.gone;
      }
    ] in
    subst (λ n. IsGoing graph n rate count before) (add-one seen) next

-- The greatest of the first cells
greatest_some : (row : List ℕ) (seen : ℕ) → seen ≤ length row → (n : ℕ) × IsGreatest row seen n
greatest_some row zero less = (0, record { most = λ node none. absurd (omega (arith, none)); one = inl refl })
greatest_some row (suc seen) less =
    let before = greatest_some row seen (omega (arith, less)) in
    let m : ℕ = max before.0 (get_or row seen 0) in
    (m, subst (λ n. IsGreatest row n m) (add-one seen) (greatest_more row seen before.0 m (omega (arith, less)) refl before.1))

-- What a pass that begins with a row shows: the number is allowed, or it goes on with the next row.
data Passes (graph : List Edge) (nodes rate count : ℕ) : Type 0 where
  settles : (n : ℕ) → Allows graph rate → IsIntercept graph rate n → Passes graph nodes rate count
  goes_on : (row : List ℕ) → length row ≡ nodes → IsRow graph 0 rate count row → (nodes < count → IsPassed graph rate (rate + 1)) → Passes graph nodes rate count

-- One pass more
passes_more : (graph : List Edge) (nodes rate count : ℕ) (before : List ℕ) → All (IsEdge nodes) graph → length graph ≤ EDGES → length before ≡ nodes → IsRow graph 0 rate count before → Passes graph nodes rate (count + 1)
passes_more graph nodes rate count before edges few size cells =
    let all : All (IsEdge (length before)) graph = subst (λ n. All (IsEdge n) graph) (sym size) edges in
    let going : IsGoing graph (length graph) rate count before = going_some graph rate count before all cells (length graph) (omega arith) in
    ends going.row going.last going.cells going.gone all
  where
    ends : (row : List ℕ) (last : Option ℕ) → IsRow graph (length graph) rate count row → HasGone graph (length graph) rate before row last → All (IsEdge (length before)) graph → Passes graph nodes rate (count + 1)
    ends row (Some node) new gone all =
        goes_on row (gone.size ∙ size) (row_done graph rate count row few new)
        (λ many. grown graph rate count node before row all (omega (arith, many, size)) gone.size gone.outcome.0 gone.outcome.1 cells (row_done graph rate count row few new))
    ends row None new gone all =
        let top = greatest_some row (length row) (omega arith) in
        let inside : (e : Edge) → Contains graph e → e.from < length row = λ e in'. omega (arith, gone.size, (All-contains (IsEdge (length before)) graph e all in').from) in
        settles top.0 (allowed graph rate row gone.outcome.1) (intercept graph rate (count + 1) top.0 row inside gone.outcome.1 (row_done graph rate count row few new) top.1)

passes_some : (graph : List Edge) (nodes rate : ℕ) → All (IsEdge nodes) graph → length graph ≤ EDGES → (count : ℕ) → Passes graph nodes rate count
passes_some graph nodes rate edges few zero =
    goes_on (replicate nodes 0) (length-replicate nodes 0) (row_none graph rate (replicate nodes 0) (λ node inside. get_or-replicate nodes node 0 0 (omega (arith, inside, length-replicate {A = ℕ} nodes 0)))) (λ none. absurd (omega (arith, none)))
passes_some graph nodes rate edges few (suc count) = subst (λ n. Passes graph nodes rate n) (add-one count) (again (passes_some graph nodes rate edges few count))
  where
    again : Passes graph nodes rate count → Passes graph nodes rate (count + 1)
    again (settles n allows is) = settles n allows is
    again (goes_on row size cells passed) = passes_more graph nodes rate count row edges few size cells

-- A number is allowed, with its intercept, or passed.
trial_some : (graph : List Edge) (nodes rate : ℕ) → All (IsEdge nodes) graph → length graph ≤ EDGES → ((n : ℕ) × Allows graph rate × IsIntercept graph rate n) ⊎ IsPassed graph rate (rate + 1)
trial_some graph nodes rate edges few = shown (passes_some graph nodes rate edges few (nodes + 1))
  where
    shown : Passes graph nodes rate (nodes + 1) → ((n : ℕ) × Allows graph rate × IsIntercept graph rate n) ⊎ IsPassed graph rate (rate + 1)
    shown (settles n allows is) = inl (n, allows, is)
    shown (goes_on row size cells passed) = inr (passed (omega arith))

-- From a number on that is no more than the rate, so many numbers are tried.
rise_some : (graph : List Edge) (nodes : ℕ) → All (IsEdge nodes) graph → length graph ≤ EDGES → (left rate : ℕ) → SCALE * BUDGET < rate + left → ((less : ℕ) → Allows graph less → rate ≤ less) → (line : Rate) × IsRateOf graph line
rise_some graph nodes edges few zero rate enough least = let l : rate ≤ SCALE * BUDGET = rate_small graph nodes rate edges least in absurd (omega (arith, l, enough))
rise_some graph nodes edges few (suc left) rate enough least =
    elim (trial_some graph nodes rate edges few) [
      | inl found ↦ (record { rate = rate; intercept = found.0 }, (record { allows = found.1; least = least }, found.2))
      | inr passed ↦ rise_some graph nodes edges few left (rate + 1) (omega (arith, enough)) (λ less allows. passed_least graph rate (rate + 1) less passed allows)
    ]

-- A graph has a line.
pub line_some : (graph : List Edge) (nodes : ℕ) → All (IsEdge nodes) graph → length graph ≤ EDGES → (line : Rate) × IsRateOf graph line
line_some graph nodes edges few = rise_some graph nodes edges few (SCALE * BUDGET + 1) 0 (omega arith) (λ less allows. omega arith)

-- It has no two.
pub line_one : (graph : List Edge) (line other : Rate) → IsRateOf graph line → IsRateOf graph other → line ≡ other
line_one graph line other is is' =
    let rate : line.rate ≡ other.rate = omega (arith, is.0.least other.rate is'.0.allows, is'.0.least line.rate is.0.allows) in
    let here : IsIntercept graph other.rate line.intercept = subst (λ r. IsIntercept graph r line.intercept) rate is.1 in
    let below : line.intercept ≤ other.intercept = omega (arith, here.one.2, is'.1.most here.one.0 here.one.1) in
    let above : other.intercept ≤ line.intercept = omega (arith, is'.1.one.2, here.most is'.1.one.0 is'.1.one.1) in
    let intercept : line.intercept ≡ other.intercept = omega (arith, below, above) in
    same line other rate intercept
  where
    same : (line other : Rate) → line.rate ≡ other.rate → line.intercept ≡ other.intercept → line ≡ other
    same line other rate intercept = subst (λ r. line ≡ record { rate = r; intercept = other.intercept }) rate (ap (λ i. record { rate = line.rate; intercept = i }) intercept)
