-- The demand is below the lines, and so below the supply from the horizon on.
use Rattle.std.proofs.Common.{◌≡◌, ℕ, ◌+◌, ◌-◌, ◌*◌, ◌≤◌, List, [], ◌∷◌, All, ap, refl, sym, ◌∙◌, inl, inr, arith}
use Rattle.std.proofs.lemmas.Bool.{cases_lt}
use Rattle.std.proofs.lemmas.List.Elements.{All-nil, All-cons, All-head, All-tail}
use Rattle.std.proofs.lemmas.List.Sums.{sum_by-cons}
use Rattle.std.proofs.Math.Nat.{add-mul, mul-le-mul_left}
use Rattle.psy_base.specs.declared.edge.Edge.{Edge}
use Rattle.psy_base.specs.Paths.{DueBy, FitsDueLast, IsGreatestWeight}
use Rattle.psy_meaning.specs.Demand.{IsDemand, Suffices}
use Rattle.psy_rate.specs.Horizons.{rate_of, intercept_of, Covers, IsHorizonOf, IsHorizon, AreDrawn, AreFeasible}
use Rattle.psy_rate.specs.Lines.{IsRateOf, AreRates, AreAll, due_of}
use Rattle.psy_rate.specs.declared.line.Rate.{Rate}
use Rattle.psy_rate.specs.declared.line.TheConstants.{SCALE}
use Rattle.psy_window.specs.declared.span.Span.{Span}
use Rattle.psy_window.specs.declared.span.Span.TheVariants.{DueLast}
use Rattle.psy_window.specs.Windows.{Fits, IsEdge}

-- A path that fits a length is due within it.
due_by : (by start : ℕ) (e : Edge) (path : List Edge) → DueBy by start (e ∷ path) → start + due_of (e ∷ path) ≤ by
due_by by start e [] fits = fits
due_by by start e (f ∷ path) fits = let l : start + e.len + due_of (f ∷ path) ≤ by = due_by by (start + e.len) f path fits in omega arith

due_within : (length : ℕ) (path : List Edge) → FitsDueLast length path → due_of path ≤ length
due_within length [] fits = omega arith
due_within length (e ∷ path) fits = let l : 0 + due_of (e ∷ path) ≤ length = due_by length 0 e path fits in omega arith

-- One agent's demand
below_one : (graph : List Edge) (line : Rate) (length n : ℕ) → IsRateOf graph line → IsGreatestWeight graph (FitsDueLast length) n → n * SCALE ≤ line.rate * length + line.intercept
below_one graph line length n is greatest =
    let path : List Edge = greatest.one.0 in
    let due : line.rate * due_of path ≤ line.rate * length = mul-le-mul_left line.rate (due_within length path greatest.one.2) in
    omega (arith, is.1.most path greatest.one.1, greatest.one.3, due)

-- All agents'
pub below_lines : (graphs : List (List Edge)) (lines : List Rate) (length demand : ℕ) → AreRates graphs lines → IsDemand graphs length demand → demand * SCALE ≤ rate_of lines * length + intercept_of lines
below_lines [] [] length demand are is = omega (arith, is)
below_lines [] (line ∷ lines) length demand are is = absurd are
below_lines (graph ∷ graphs) [] length demand are is = absurd are
below_lines (graph ∷ graphs) (line ∷ lines) length demand are is =
    let here : is.0 * SCALE ≤ line.rate * length + line.intercept = below_one graph line length is.0 are.0 is.2 in
    let rest : is.1 * SCALE ≤ rate_of lines * length + intercept_of lines = below_lines graphs lines length is.1 are.1 is.3 in
    let both : (line.rate + rate_of lines) * length ≡ line.rate * length + rate_of lines * length = add-mul line.rate (rate_of lines) length in
    let rates : rate_of (line ∷ lines) * length ≡ (line.rate + rate_of lines) * length = ap (λ r. r * length) (sum_by-cons (λ l. l.rate) line lines) in
    let intercepts : intercept_of (line ∷ lines) ≡ line.intercept + intercept_of lines = sum_by-cons (λ l. l.intercept) line lines in
    omega (arith, here, rest, both, rates, intercepts, is.4)

-- Behind the horizon of a group the supply is above its lines.
pub behind : (graphs : List (List Edge)) (lines : List Rate) (quantum own length : ℕ) → AreRates graphs lines → ((length : ℕ) → (demand : ℕ) × IsDemand graphs length demand) → Covers quantum lines own → own ≤ length → Suffices graphs quantum length
behind graphs lines quantum own length are demands covers later =
    let line : (demands length).0 * SCALE ≤ rate_of lines * length + intercept_of lines = below_lines graphs lines length (demands length).0 are (demands length).1 in
    let grows : (quantum * SCALE - rate_of lines) * own ≤ (quantum * SCALE - rate_of lines) * length = mul-le-mul_left (quantum * SCALE - rate_of lines) later in
    let whole : rate_of lines + (quantum * SCALE - rate_of lines) ≡ quantum * SCALE = omega (arith, covers.0) in
    let split : (rate_of lines + (quantum * SCALE - rate_of lines)) * length ≡ rate_of lines * length + (quantum * SCALE - rate_of lines) * length = add-mul (rate_of lines) (quantum * SCALE - rate_of lines) length in
    let supply : quantum * SCALE * length ≡ rate_of lines * length + (quantum * SCALE - rate_of lines) * length = sym (ap (λ n. n * length) whole) ∙ split in
    ((demands length).0, (demands length).1, omega (arith, line, grows, covers.1, supply))

-- What the paths of a graph have that fit a length, and the demand of a group's agents over it
module _ (greatest : (graph : List Edge) (nodes : ℕ) (span : Span) (within : ℕ) → All (IsEdge nodes) graph → (n : ℕ) × IsGreatestWeight graph (Fits span within) n) where
  abbrev IsDrawn : List Edge → Type 0
  IsDrawn graph = (nodes : ℕ) × All (IsEdge nodes) graph

  some_demand : (graphs : List (List Edge)) → All IsDrawn graphs → (length : ℕ) → (demand : ℕ) × IsDemand graphs length demand
  some_demand [] drawn length = (0, refl)
  some_demand (graph ∷ graphs) drawn length =
      let its = All-head IsDrawn graph graphs drawn in
      let one = greatest graph its.0 DueLast length its.1 in
      let others = some_demand graphs (All-tail IsDrawn graph graphs drawn) length in
      (one.0 + others.0, (one.0, others.0, one.1, others.1, refl))

  -- Behind the horizon of all groups the supply is above the lines of each.
  groups_behind : (groups : List (List (List Edge))) (lines : List (List Rate)) (quantum horizon length : ℕ) → AreDrawn groups → AreAll groups lines → All (λ ls. (own : ℕ) × IsHorizonOf quantum ls own × (own ≤ horizon)) lines → horizon ≤ length → All (λ graphs. Suffices graphs quantum length) groups
  groups_behind [] [] quantum horizon length drawn are each later = All-nil (λ graphs. Suffices graphs quantum length)
  groups_behind [] (ls ∷ lines) quantum horizon length drawn are each later = absurd are
  groups_behind (graphs ∷ groups) [] quantum horizon length drawn are each later = absurd are
  groups_behind (graphs ∷ groups) (ls ∷ lines) quantum horizon length drawn are each later =
      let Q : List Rate → Type 0 = λ rs. (own : ℕ) × IsHorizonOf quantum rs own × (own ≤ horizon) in
      let own : (own : ℕ) × IsHorizonOf quantum ls own × (own ≤ horizon) = All-head Q ls lines each in
      All-cons (λ gs. Suffices gs quantum length) graphs groups
      (behind graphs ls quantum own.0 length are.0 (some_demand graphs (All-head (All IsDrawn) graphs groups drawn)) own.1.covers (omega (arith, own.2, later)))
      (groups_behind groups lines quantum horizon length (All-tail (All IsDrawn) graphs groups drawn) are.1 (All-tail Q ls lines each) later)

  -- Where the supply suffices up to the horizon it suffices over every length.
  pub always : (groups : List (List (List Edge))) (lines : List (List Rate)) (quantum horizon : ℕ) → AreDrawn groups → AreAll groups lines → IsHorizon quantum lines horizon → AreFeasible groups quantum horizon → (top : ℕ) → AreFeasible groups quantum top
  always groups lines quantum horizon drawn are is feasible top length some within =
      elim (cases_lt horizon length) [
        | inl behind ↦ groups_behind groups lines quantum horizon length drawn are is.each (omega (arith, behind))
        | inr before ↦ feasible length some before
      ]
