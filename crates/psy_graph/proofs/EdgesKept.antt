-- The edges of the graph of an agent of a text: their ends are nodes, an action is due behind its start and by its end, and weighs
-- no more than the greatest budget.
use Rattle.std.proofs.Common.{◌≡◌, ap, refl, ℕ, zero, suc, ◌<◌, ◌≤◌, List, [], ◌∷◌, map, length, get_or, arith}
use Rattle.std.specs.List.{All, Contains}
use Rattle.std.proofs.lemmas.Option.{slice_get_within}
use Rattle.psy_base.specs.declared.edge.Edge.{Edge}
use Rattle.psy_base.specs.declared.limits.TheConstants.{BUDGET}
use Rattle.psy_lists.proofs.lemmas.Members.{all_members}
use Rattle.psy_clock.specs.declared.clock.Clock.{Clock}
use Rattle.psy_clock.specs.Dates.{IsClock, after_date}
use Rattle.psy_meaning.specs.Timing.{Timing, point_at, clock_at, following, budget_at, end_date, deadline, least}
use Rattle.psy_window.specs.Windows.{IsEdge}
use Rattle.psy_graph.specs.declared.graph.Graph.{Graph}
use Rattle.psy_graph.specs.Graphs.{spot_of, IsGraphOf, IsTimed}

-- ---- lists

-- What holds of all, and of what stands for none, holds of what is found at a place.
found : {X : Type 0} (P : X → Type 0) (xs : List X) (k : ℕ) (d : X) → All P xs → P d → P (get_or xs k d)
found P [] k d all none = none
found P (x ∷ xs) zero d all none = all 0 x (omega arith)
found P (x ∷ xs) (suc k) d all none = found P xs k d (λ j e less. all (suc j) e (omega (arith, less))) none

-- The least of some numbers is at most each of them.
least_most : (f : ℕ → ℕ) (xs : List ℕ) (x : ℕ) → Contains xs x → least (map f xs) ≤ f x
least_most f xs x c = by xs c.0 c.1 c.2
  where
    by : (xs : List ℕ) (k : ℕ) → k < length xs → get_or xs k x ≡ x → least (map f xs) ≤ f x
    by [] k less is = absurd (omega (arith, less))
    by (y ∷ []) zero less is = let e : f y ≡ f x = ap f is in omega (arith, e)
    by (y ∷ []) (suc k) less is = absurd (omega (arith, less))
    by (y ∷ z ∷ rest) zero less is = let e : f y ≡ f x = ap f is in omega (arith, e)
    by (y ∷ z ∷ rest) (suc k) less is = let h = by (z ∷ rest) k (omega (arith, less)) is in omega (arith, h)

-- Where each of some numbers is above another, the least of them is.
least_above : (f : ℕ → ℕ) (n : ℕ) (xs : List ℕ) → 1 ≤ length xs → ((x : ℕ) → Contains xs x → n < f x) → n < least (map f xs)
least_above f n [] some each = absurd (omega (arith, some))
least_above f n (x ∷ []) some each = each x (0, omega arith, refl)
least_above f n (x ∷ y ∷ rest) some each =
    let first = each x (0, omega arith, refl) in
    let others = least_above f n (y ∷ rest) (omega arith) (λ z c. each z (suc c.0, omega (arith, c.1), c.2)) in
    omega (arith, first, others)

-- ---- an edge

module _ (late : (c : Clock) (t k : ℕ) → IsClock c → 1 ≤ k → t < after_date c t k) (timing : Timing) (timed : IsTimed timing) where
  clock_lawful : (clock : ℕ) → IsClock (clock_at timing clock)
  clock_lawful clock = found IsClock timing.clocks clock _ timed.clocks (record { first = omega arith; period = omega arith })

  pub budget_small : (point : ℕ) → budget_at timing point ≤ BUDGET
  budget_small point = found (λ p. p.budget ≤ BUDGET) timing.points point _ timed.budgets (omega arith)

  -- an action ends behind its start
  ends_behind : (point start to : ℕ) → Contains (following timing point) to → start < end_date timing start to
  ends_behind point start to c =
      let (inner, less) = timed.within point to c in
      late (clock_at timing (point_at timing to).clock) start (point_at timing to).count (clock_lawful (point_at timing to).clock) (timed.counts to inner less).0

  -- and is due behind it
  due_behind : (point start to : ℕ) → Contains (following timing point) to → start < deadline timing point start
  due_behind point start to c = least_above (end_date timing start) start (following timing point) (omega (arith, c.1)) (λ x d. ends_behind point start x d)

  -- its deadline is no later than its end
  pub due_by_end : (point start to : ℕ) → Contains (following timing point) to → deadline timing point start ≤ end_date timing start to
  due_by_end point start to c = least_most (end_date timing start) (following timing point) to c

length_map : {X Y : Type 0} (f : X → Y) (xs : List X) → length (map f xs) ≡ length xs
length_map f [] = refl
length_map f (x ∷ xs) = omega (arith, length_map f xs)

pub edges_kept : ((c : Clock) (t k : ℕ) → IsClock c → 1 ≤ k → t < after_date c t k) → (timing : Timing) (graph : Graph) → IsTimed timing → IsGraphOf timing graph → All (IsEdge (length graph.nodes)) graph.edges
edges_kept late timing graph timed drawn = all_members (IsEdge (length graph.nodes)) graph.edges each
  where
    each : (e : Edge) → Contains graph.edges e → IsEdge (length graph.nodes) e
    each e c =
        let (point, start, to, its) = (drawn.drawn.links.all e).0 c in
        let from = slice_get_within (map spot_of graph.nodes) e.from _ its.from in
        let into = slice_get_within (map spot_of graph.nodes) e.to _ its.into in
        let long : length (map spot_of graph.nodes) ≡ length graph.nodes = length_map spot_of graph.nodes in
        let behind = due_behind late timing timed point start to its.follows in
        let by_end = due_by_end late timing timed point start to its.follows in
        let small = budget_small late timing timed point in
        record {
          from = omega (arith, from, long);
          to = omega (arith, into, long);
          after = let h = its.due in omega (arith, behind, h);
          due = let h = its.due in let l = its.len in omega (arith, by_end, h, l);
          weight = let w = its.weight in omega (arith, w, small);
        }
