-- What verdicts on processors say of their agents' graphs, and what is found of all processors by them.
use Rattle.std.proofs.Common.{◌≡◌, ◌↔◌, ℕ, ◌+◌, ◌*◌, ◌<◌, ◌≤◌, List, [], ◌∷◌, inl, inr, if◌then◌else◌, refl, slice_index, sym, subst, arith, nat_lt, true, false, Bool}
use Rattle.std.proofs.lemmas.Bool.{cases_eq, ltb-false, ltb-true}
use Rattle.psy_base.specs.declared.edge.Edge.{Edge}
use Rattle.psy_base.specs.declared.limits.TheConstants.{PROCESSORS}
use Rattle.psy_meaning.specs.Demand.{AreFeasible, IsDemand, IsFeasible, IsOverload, IsOverloadOn, Suffices, edges_on}
use Rattle.psy_demand.specs.Demand.{IsVerdict, demand}
use Rattle.psy_demand.specs.Findings.{IsFoundOf, IsVerdictOn, joined}
use Rattle.psy_demand.specs.declared.demand.Verdict.{Verdict}
use Rattle.psy_demand.specs.declared.demand.Verdict.TheVariants.{Yes, No}
use Rattle.psy_demand.specs.declared.finding.Finding.{Finding}
use Rattle.psy_demand.specs.declared.finding.Finding.TheVariants.{Feasible, Overload}
use Rattle.psy_demand.proofs.lemmas.OnProcessors.{feasible_no_overload_on, overload_on_one}

-- ---- one processor

-- A verdict by the sums of the agents' demands is one by their graphs.
pub verdict_on : (graphs : List (List Edge)) (sums : List ℕ) (quantum top : ℕ) (verdict : Verdict) → ((within : ℕ) → within < top + 1 → IsDemand graphs within (slice_index sums within))
    → IsVerdict (sums ∷ []) quantum top verdict → IsVerdictOn graphs quantum top verdict
verdict_on graphs sums quantum top verdict are is = by verdict is
  where
    is_demand : (within : ℕ) → within ≤ top → IsDemand graphs within (demand (sums ∷ []) within)
    is_demand within below =
        let one : slice_index sums within ≡ demand (sums ∷ []) within = omega arith in
        subst (IsDemand graphs within) one (are within (omega (arith, below)))

    suffices : (within : ℕ) → within ≤ top → demand (sums ∷ []) within ≤ quantum * within → Suffices graphs quantum within
    suffices within below fits = (demand (sums ∷ []) within, is_demand within below, fits)

    passed_by : (within passed : ℕ) → IsVerdict (sums ∷ []) quantum top (No within passed) → IsOverload graphs quantum top within passed
    passed_by within passed (above, below, same, passes, least) = record {
      some = above;
      within = below;
      is_demand = subst (IsDemand graphs within) (sym same) (is_demand within below);
      passes = passes;
      least = λ less above' before. suffices less (omega (arith, before, below)) (least less above' before);
    }

    by : (verdict : Verdict) → IsVerdict (sums ∷ []) quantum top verdict → IsVerdictOn graphs quantum top verdict
    by Yes is = λ within above below. suffices within below (is within above below)
    by (No within passed) is = passed_by within passed is

-- ---- one processor more

module _ (homes : List ℕ) (graphs : List (List Edge)) (quantum top processor : ℕ) where
  abbrev IsFound : ℕ → Finding → Type 0
  IsFound = IsFoundOf homes graphs quantum top

  -- It can supply its agents' demand.
  found_yes : (found : Finding) → IsFound processor found → IsFeasible (edges_on homes processor graphs) quantum top → IsFound (processor + 1) found
  found_yes Feasible is feasible = λ other below. elim (cases_eq other processor) [
    | inl same ↦ subst (λ p. IsFeasible (edges_on homes p graphs) quantum top) (sym same) feasible
    | inr differs ↦ is other (omega (arith, below, differs))
  ]
  found_yes (Overload within first passed) (known, over, least, lesser) feasible = (
    omega (arith, known),
    over,
    (λ less other above before below. elim (cases_eq other processor) [
      | inl same ↦ subst (λ p. Suffices (edges_on homes p graphs) quantum less) (sym same) (feasible less above (omega (arith, before, over.within)))
      | inr differs ↦ least less other above before (omega (arith, below, differs))
    ]),
    lesser,
  )

  -- It can't, and no earlier one over a length up to the least.
  found_no : (within passed : ℕ) → IsOverload (edges_on homes processor graphs) quantum top within passed
      → ((less other : ℕ) → 1 ≤ less → less ≤ within → other < processor → Suffices (edges_on homes other graphs) quantum less) → IsFound (processor + 1) (Overload within processor passed)
  found_no within passed over earlier = (
    omega arith,
    over,
    (λ less other above before below. elim (cases_eq other processor) [
      | inl same ↦ subst (λ p. Suffices (edges_on homes p graphs) quantum less) (sym same) (over.least less above before)
      | inr differs ↦ earlier less other above (omega (arith, before)) (omega (arith, below, differs))
    ]),
    (λ other before. earlier within other over.some (omega arith) before),
  )

  -- An earlier one can't over a length that isn't greater.
  found_earlier : (least first already within passed : ℕ) → IsFound processor (Overload least first already) → IsOverload (edges_on homes processor graphs) quantum top within passed
      → least ≤ within → IsFound (processor + 1) (Overload least first already)
  found_earlier least first already within passed (known, is, before_it, lesser) over sooner = (
    omega (arith, known),
    is,
    (λ less other above before below. elim (cases_eq other processor) [
      | inl same ↦ subst (λ p. Suffices (edges_on homes p graphs) quantum less) (sym same) (over.least less above (omega (arith, before, sooner)))
      | inr differs ↦ before_it less other above before (omega (arith, below, differs))
    ]),
    lesser,
  )

  pub found_more : (found : Finding) (verdict : Verdict) → IsFound processor found → IsVerdictOn (edges_on homes processor graphs) quantum top verdict
      → IsFound (processor + 1) (joined found processor verdict)
  found_more found Yes is its = found_yes found is its
  found_more Feasible (No within passed) is its = found_no within passed its (λ less other above below before. is other before less above (omega (arith, below, its.within)))
  found_more (Overload least first already) (No within passed) is its = by (nat_lt within least) refl
    where
      by : (b : Bool) → nat_lt within least ≡ b → IsFound (processor + 1) (if b then Overload within processor passed else Overload least first already)
      by true e = found_no within passed its (λ less other above below before. is.2 less other above (omega (arith, below, ltb-true within least e)) before)
      by false e = found_earlier least first already within passed is its (omega (arith, ltb-false within least e))

-- ---- all processors

-- An overload that has these numbers
overload_at : (Is : ℕ → ℕ → ℕ → Type 0) (l p d m q e : ℕ) → ◌≡◌ {A = Finding} (Overload l p d) (Overload m q e) → Is l p d → Is m q e
overload_at Is l p d m q e same is =
    let of_length : l ≡ m = cc in
    let of_processor : p ≡ q = cc in
    let of_demand : d ≡ e = cc in
    subst (λ n. Is n q e) of_length (subst (λ n. Is l n e) of_processor (subst (Is l p) of_demand is))

module _ (homes : List ℕ) (graphs : List (List Edge)) (quantum top : ℕ) where
  overload : (within processor passed : ℕ) → IsFoundOf homes graphs quantum top PROCESSORS (Overload within processor passed) → IsOverloadOn homes graphs quantum top within processor passed
  overload within processor passed (known, over, least, lesser) = record {
    some = over.some;
    within = over.within;
    known = known;
    is_demand = over.is_demand;
    passes = over.passes;
    least = least;
    first = lesser;
  }

  -- They can supply the demand exactly where nothing else is found.
  pub fits : (found : Finding) → IsFoundOf homes graphs quantum top PROCESSORS found → (found ≡ Feasible) ↔ AreFeasible homes graphs quantum top
  fits Feasible is = (λ e. is, λ can. refl)
  fits (Overload within processor passed) is = (λ e. cc, λ can. absurd (feasible_no_overload_on homes graphs quantum top within processor passed can (overload within processor passed is)))

  -- Else they have this overload alone.
  pub passes : (found : Finding) → IsFoundOf homes graphs quantum top PROCESSORS found → (length processor demand : ℕ) → (found ≡ Overload length processor demand)
      ↔ IsOverloadOn homes graphs quantum top length processor demand
  passes Feasible is l p d = (λ e. cc, λ over. absurd (feasible_no_overload_on homes graphs quantum top l p d is over))
  passes (Overload within processor passed) is l p d =
      let over = overload within processor passed is in (
        λ e. overload_at (IsOverloadOn homes graphs quantum top) within processor passed l p d e over,
        λ other. let same = overload_on_one homes graphs quantum top within processor passed l p d over other in λ i. Overload (same.0 i) (same.1 i) (same.2 i),
      )
