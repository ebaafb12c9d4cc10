-- What the agents of each processor may demand: where the demands are there, processors are feasible or have an overload, one and not both; and a
-- list of what each processor has.
use Rattle.std.proofs.Common.{◌≡◌, ◌⊎◌, ℕ, zero, suc, ◌+◌, ◌*◌, ◌<◌, ◌≤◌, ◌==◌, Bool, true, false, if◌then◌else◌, List, [], ◌∷◌, All, length, map, get_or, sym, subst, inl, inr, arith}
use Rattle.std.specs.List.{Contains, range_with_len}
use Rattle.std.proofs.lemmas.Bool.{cases_eq, cases_lt}
use Rattle.std.proofs.lemmas.List.Elements.{All-head, All-map, All-tail}
use Rattle.std.proofs.lemmas.List.FromFn.{get_or-map-range_with_len, get_or-range_with_len, length-map-range_with_len, length-range_with_len}
use Rattle.std.proofs.lemmas.Option.{get_or_from_slice_get, slice_get_within}
use Rattle.psy_base.specs.declared.edge.Edge.{Edge}
use Rattle.psy_base.specs.declared.limits.TheConstants.{PROCESSORS}
use Rattle.psy_base.specs.Paths.{FitsDueLast, IsGreatestWeight}
use Rattle.psy_meaning.specs.Demand.{AreFeasible, IsDemand, IsOverloadOn, Suffices, edges_on}
use Rattle.psy_meaning.proofs.lemmas.Demands.{demand-one, demand-some}

-- ---- lists by processor

-- What holds by each of so many processors holds of all that they have.
pub by_each : {X : Type 0} (P : X → Type 0) (f : ℕ → X) (count : ℕ) → ((processor : ℕ) → processor < count → P (f processor)) → All P (map f (range_with_len 0 count))
by_each P f count each = All-map P f (range_with_len 0 count) (λ k d less.
    let inside : k < count = omega (arith, less, length-range_with_len 0 count) in
    let at : get_or (range_with_len 0 count) k d ≡ 0 + k = get_or-range_with_len 0 count k d inside in
    each (get_or (range_with_len 0 count) k d) (omega (arith, at, inside)))

-- Then it holds by one of them.
pub by_one : {X : Type 0} (P : X → Type 0) (f : ℕ → X) (count processor : ℕ) → processor < count → All P (map f (range_with_len 0 count)) → P (f processor)
by_one P f count processor less all =
    subst P (get_or-map-range_with_len f 0 count processor processor (f processor) less (omega arith)) (all processor (f processor) (omega (arith, less, length-map-range_with_len f 0 count)))

-- What one of them has is among what all have.
pub there_by : {X : Type 0} (f : ℕ → X) (count processor : ℕ) → processor < count → Contains (map f (range_with_len 0 count)) (f processor)
there_by f count processor less =
    (processor, omega (arith, less, length-map-range_with_len f 0 count), get_or-map-range_with_len f 0 count processor processor (f processor) less (omega arith))

-- ---- the demand of a processor's agents

-- What holds of each graph, and of one without edges, holds by any agent.
holds_at : (P : List Edge → Type 0) (graphs : List (List Edge)) → P [] → All P graphs → (agent : ℕ) → P (get_or graphs agent [])
holds_at P [] none all agent = none
holds_at P (graph ∷ graphs) none all zero = All-head P graph graphs all
holds_at P (graph ∷ graphs) none all (suc agent) = holds_at P graphs none (All-tail P graph graphs all) agent

holds_where : (P : List Edge → Type 0) (here : Bool) (graph : List Edge) → P [] → P graph → P (if here then graph else [])
holds_where P true graph none holds = holds
holds_where P false graph none holds = none

-- So it holds of the graphs of a processor's agents.
pub holds_on : (P : List Edge → Type 0) (homes : List ℕ) (processor : ℕ) (graphs : List (List Edge)) → P [] → All P graphs → All P (edges_on homes processor graphs)
holds_on P homes processor graphs none all =
    by_each P (λ agent. if get_or homes agent 0 == processor then get_or graphs agent [] else []) (length graphs)
    (λ agent less. holds_where P (get_or homes agent 0 == processor) (get_or graphs agent []) none (holds_at P graphs none all agent))

-- Where each graph has a greatest weight of the paths that fit a length, the demand of a processor's agents over it is there.
pub demand_on : (homes : List ℕ) (processor : ℕ) (graphs : List (List Edge)) (within : ℕ) → ((n : ℕ) × IsGreatestWeight [] (FitsDueLast within) n) → All (λ graph. (n : ℕ) × IsGreatestWeight graph (FitsDueLast within) n) graphs
    → (demand : ℕ) × IsDemand (edges_on homes processor graphs) within demand
demand_on homes processor graphs within none all =
    let P : List Edge → Type 0 = λ graph. (n : ℕ) × IsGreatestWeight graph (FitsDueLast within) n in
    let each : All P (edges_on homes processor graphs) = holds_on P homes processor graphs none all in
    demand-some (edges_on homes processor graphs) within (λ i graph at.
    subst P (get_or_from_slice_get (edges_on homes processor graphs) i graph graph at) (each i graph (slice_get_within (edges_on homes processor graphs) i graph at)))

-- ---- one and not both

module _ (homes : List ℕ) (graphs : List (List Edge)) (quantum : ℕ) where
  -- Each of the first so many processors can supply the demand of its agents over a length.
  abbrev EachSuffices : ℕ → ℕ → Type 0
  EachSuffices within count = (processor : ℕ) → processor < count → Suffices (edges_on homes processor graphs) quantum within

  -- The least of them that can't
  record IsFirst (within count : ℕ) : Type 0 where
    processor : ℕ
    demand : ℕ
    known : processor < count
    is_demand : IsDemand (edges_on homes processor graphs) within demand
    passes : quantum * within < demand
    first : (other : ℕ) → other < processor → Suffices (edges_on homes other graphs) quantum within

  -- Over the length of an overload the demand on its processor doesn't suffice.
  overload_passes : (top within processor demand : ℕ) → IsOverloadOn homes graphs quantum top within processor demand → Suffices (edges_on homes processor graphs) quantum within → ⊥
  overload_passes top within processor demand over fits =
      let same : demand ≡ fits.0 = demand-one (edges_on homes processor graphs) within demand fits.0 over.is_demand fits.1 in
      absurd (omega (arith, same, over.passes, fits.2))

  -- Feasible processors have no overload.
  pub feasible_none : (top within processor demand : ℕ) → AreFeasible homes graphs quantum top → IsOverloadOn homes graphs quantum top within processor demand → ⊥
  feasible_none top within processor demand feasible over =
      overload_passes top within processor demand over (feasible processor over.known within over.some over.within)

  -- The length of an overload isn't behind that of another.
  not_behind : (top l m p q d e : ℕ) → IsOverloadOn homes graphs quantum top l p d → IsOverloadOn homes graphs quantum top m q e → l ≤ m
  not_behind top l m p q d e is is' = elim (cases_lt m l) [
    | inl before ↦ absurd (overload_passes top m q e is' (is.least m q is'.some before is'.known))
    | inr not_before ↦ not_before
  ]

  -- Nor is its processor, over the same length.
  not_after : (top l p q d e : ℕ) → IsOverloadOn homes graphs quantum top l p d → IsOverloadOn homes graphs quantum top l q e → p ≤ q
  not_after top l p q d e is is' = elim (cases_lt q p) [
    | inl before ↦ absurd (overload_passes top l q e is' (is.first q before))
    | inr not_before ↦ not_before
  ]

  -- An overload is one.
  pub overload_one : (top l m p q d e : ℕ) → IsOverloadOn homes graphs quantum top l p d → IsOverloadOn homes graphs quantum top m q e → (l ≡ m) × (p ≡ q) × (d ≡ e)
  overload_one top l m p q d e is is' =
      let most : l ≤ m = not_behind top l m p q d e is is' in
      let least : m ≤ l = not_behind top m l q p e d is' is in
      let same : l ≡ m = omega (arith, most, least) in
      let here : IsOverloadOn homes graphs quantum top m p d = subst (λ n. IsOverloadOn homes graphs quantum top n p d) same is in
      let low : p ≤ q = not_after top m p q d e here is' in
      let high : q ≤ p = not_after top m q p e d is' here in
      let its : p ≡ q = omega (arith, low, high) in
      let there : IsOverloadOn homes graphs quantum top m q d = subst (λ n. IsOverloadOn homes graphs quantum top m n d) its here in
      (same, its, demand-one (edges_on homes q graphs) m d e there.is_demand is'.is_demand)

  -- An overload up to a length is one up to a greater.
  pub overload_further : (top more within processor demand : ℕ) → top ≤ more → IsOverloadOn homes graphs quantum top within processor demand → IsOverloadOn homes graphs quantum more within processor demand
  overload_further top more within processor demand further over = record {
    some = over.some;
    within = omega (arith, over.within, further);
    known = over.known;
    is_demand = over.is_demand;
    passes = over.passes;
    least = over.least;
    first = over.first;
  }

  module _ (demands : (processor within : ℕ) → (demand : ℕ) × IsDemand (edges_on homes processor graphs) within demand) where
    first_or_all : (within count : ℕ) → IsFirst within count ⊎ EachSuffices within count
    first_or_all within zero = inr (λ processor none. absurd (omega (arith, none)))
    first_or_all within (suc count) = elim (first_or_all within count) [
      | inl f ↦ inl (record { processor = f.processor; demand = f.demand; known = omega (arith, f.known); is_demand = f.is_demand; passes = f.passes; first = f.first })
      | inr all ↦ elim (cases_lt (quantum * within) (demands count within).0) [
        | inl passes ↦ inl (record { processor = count; demand = (demands count within).0; known = omega arith; is_demand = (demands count within).1; passes = passes; first = all })
        | inr fits ↦ inr (λ processor less. elim (cases_eq processor count) [
          | inl same ↦ subst (λ p. Suffices (edges_on homes p graphs) quantum within) (sym same) ((demands count within).0, (demands count within).1, fits)
          | inr other ↦ all processor (omega (arith, less, other))
        ])
      ]
    ]

    -- Up to one length more
    one_more : (top : ℕ) → AreFeasible homes graphs quantum top → IsFirst (suc top) PROCESSORS ⊎ EachSuffices (suc top) PROCESSORS
        → AreFeasible homes graphs quantum (suc top) ⊎ ((within processor demand : ℕ) × IsOverloadOn homes graphs quantum (suc top) within processor demand)
    one_more top feasible (inl f) = inr (
      suc top,
      f.processor,
      f.demand,
      record {
        some = omega arith;
        within = omega arith;
        known = f.known;
        is_demand = f.is_demand;
        passes = f.passes;
        least = λ less other above before known. feasible other known less above (omega (arith, before));
        first = f.first;
      },
    )
    one_more top feasible (inr all) = inl (λ processor known within above below. elim (cases_eq within (suc top)) [
      | inl same ↦ subst (Suffices (edges_on homes processor graphs) quantum) (sym same) (all processor known)
      | inr other ↦ feasible processor known within above (omega (arith, below, other))
    ])

    pub feasible_or_overload : (top : ℕ) → AreFeasible homes graphs quantum top ⊎ ((within processor demand : ℕ) × IsOverloadOn homes graphs quantum top within processor demand)
    feasible_or_overload zero = inl (λ processor known within above below. absurd (omega (arith, above, below)))
    feasible_or_overload (suc top) = elim (feasible_or_overload top) [
      | inl feasible ↦ one_more top feasible (first_or_all (suc top) PROCESSORS)
      | inr found ↦ inr (found.0, found.1, found.2, overload_further top (suc top) found.0 found.1 found.2 (omega arith) found.3)
    ]
