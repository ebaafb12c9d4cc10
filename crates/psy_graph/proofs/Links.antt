-- The edges of the graph: those that are made from the places are those of the actions that may start.
use Rattle.std.proofs.Common.{◌≡◌, ℕ, zero, suc, ◌+◌, ◌-◌, ◌*◌, ◌/◌, ◌%◌, ◌<◌, ◌≤◌, List, [], ◌∷◌, ◌++◌, map, length, get_or, take, append_assoc, refl, sym, ap, subst, ◌∙◌, inl, inr, Some, arith, length-append}
use Rattle.std.specs.List.{AllPairs, Contains, slice_get}
use Rattle.std.proofs.lemmas.Bool.{cases_lt}
use Rattle.std.proofs.lemmas.Option.{slice_get-get_or, slice_get_within, get_or_from_slice_get}
use Rattle.std.proofs.lemmas.List.{map_more, get_or-map, length-map, get_or_default}
use Rattle.std.proofs.lemmas.List.Elements.{All-map, All-contains, All-contains_itself, All-weaker, Contains-append_left, Contains-append_right, Contains-append_cases}
use Rattle.psy_base.specs.declared.edge.Edge.{Edge}
use Rattle.psy_base.specs.declared.limits.TheConstants.{NODES}
use Rattle.psy_graph.proofs.lemmas.MayStarts.{may_point}
use Rattle.psy_lists.proofs.lemmas.Ordered.{pairs_append}
use Rattle.psy_lists.proofs.lemmas.Members.{contains_map, map_contains}
use Rattle.psy_clock.specs.declared.clock.Clock.{Clock}
use Rattle.psy_clock.specs.Dates.{IsClock, after_date}
use Rattle.psy_meaning.specs.Timing.{Timing, point_at, clock_at, following, budget_at, end_date, deadline}
use Rattle.psy_meaning.specs.Graph.{Spot, spot_at, IsEdgeOf, EdgeBefore, AreEdges}
use Rattle.psy_graph.specs.declared.cycle.TheConstants.{FAR}
use Rattle.psy_graph.specs.declared.graph.Node.{Node}
use Rattle.psy_graph.specs.declared.place.Place.{Place}
use Rattle.psy_graph.specs.Graphs.{IsTimed}
use Rattle.psy_graph.specs.Steps.{STEP, IsModulus, cycle_of}
use Rattle.psy_graph.specs.Places.{spot_by, place_at, IsMetAt, IsSought, HasFollowers, ArePlaces, AreNear}
use Rattle.psy_graph.specs.Drawn.{number_of, place_of, node_of, edge_to, edges_from, first_edges}
use Rattle.psy_graph.proofs.Periods.{clock_lawful}
use Rattle.psy_meaning.proofs.lemmas.Leasts.{least_below, least_above}
use Rattle.psy_graph.proofs.Phases.{ComesAgain, ComesNear, end_near, phase_and_cycles, end_of_phase, deadline_of_phase, same_phase}
use Rattle.psy_graph.proofs.Rooms.{same_place}
use Rattle.psy_graph.proofs.Numbers.{number_at, number_is, number_rises, place_there, sought_at}

-- ---- lists

-- ---- the dates of actions that start in one phase

-- An end date lies behind the start.
abbrev pub ComesLate : Type 0
ComesLate = (c : Clock) (t k : ℕ) → IsClock c → 1 ≤ k → t < after_date c t k

pub end_late : ComesLate → (timing : Timing) → IsTimed timing → (start to : ℕ) → 1 ≤ to → to < length timing.points → start < end_date timing start to
end_late late timing timed start to some h =
    late (clock_at timing (point_at timing to).clock) start (point_at timing to).count (clock_lawful timing timed to h) (timed.counts to some h).0

pub deadline_late : ComesLate → (timing : Timing) → IsTimed timing → (point start : ℕ) → point < length timing.points → start < deadline timing point start
deadline_late late timing timed point start h =
    let later : (to : ℕ) → Contains (following timing point) to → start < end_date timing start to =
    λ to c. (let w = timed.within point to c in end_late late timing timed start to w.0 w.1) in
    least_above start (map (end_date timing start) (following timing point)) (omega (arith, timed.some point h, length-map (following timing point) (end_date timing start)))
    (All-map (λ n. start < n) (end_date timing start) (following timing point)
    (All-weaker (Contains (following timing point)) (λ to. start < end_date timing start to) later (following timing point) (All-contains_itself (following timing point))))

pub deadline_first : (timing : Timing) (point start to : ℕ) → Contains (following timing point) to → deadline timing point start ≤ end_date timing start to
deadline_first timing point start to c = least_below (map (end_date timing start) (following timing point)) (end_date timing start to) (contains_map (end_date timing start) (following timing point) to c)

-- How an action that starts in a place's phase ends: by as much later as it starts
pub record IsLater (timing : Timing) (p : Place) (start by : ℕ) : Type 0 where
  pub begins : start ≡ p.phase + by
  pub ends : (to : ℕ) → Contains (following timing p.point) to → end_date timing start to ≡ end_date timing p.phase to + by
  pub due : deadline timing p.point start ≡ deadline timing p.point p.phase + by

pub later_by : ComesAgain → (timing : Timing) → IsTimed timing → (p : Place) (start : ℕ) → p.point < length timing.points → p.phase ≡ start % cycle_of timing → IsLater timing p start (start / cycle_of timing * cycle_of timing)
later_by again timing timed p start h e =
    let cycle = cycle_of timing in
    let by = start / cycle * cycle in
    record {
      begins = phase_and_cycles cycle start ∙ ap (λ n. n + by) (sym e);
      ends = λ to c. (let w = timed.within p.point to c in end_of_phase again timing timed start to w.0 w.1 ∙ ap (λ n. end_date timing n to + by) (sym e));
      due = deadline_of_phase again timing timed p.point start h ∙ ap (λ n. deadline timing p.point n + by) (sym e);
    }

-- ---- the edges of one place

abbrev spot : ℕ → ℕ → Spot
spot point phase = record { point = point; phase = phase }

same_edge : (a b : Edge) → a.from ≡ b.from → a.to ≡ b.to → a.len ≡ b.len → a.due ≡ b.due → a.weight ≡ b.weight → a ≡ b
same_edge a b ef et el ed ew =
    let edge : ℕ → ℕ → ℕ → ℕ → ℕ → Edge = λ f t l d w. record { from = f; to = t; len = l; due = d; weight = w } in
    ap (λ x. edge x a.to a.len a.due a.weight) ef ∙ ap (λ x. edge b.from x a.len a.due a.weight) et ∙ ap (λ x. edge b.from b.to x a.due a.weight) el ∙ ap (λ x. edge b.from b.to b.len x a.weight) ed ∙ ap (λ x. edge b.from b.to b.len b.due x) ew

-- Where an action from this place that reaches a point is followed
abbrev next : Timing → Place → ℕ → Place
next timing p to = place_at timing to (end_date timing p.phase to)

pub place_contained : (places : List Place) (i : ℕ) → i < length places → Contains places (place_of places i)
place_contained places i l = (i, l, get_or_default places i (place_of places i) (record { point = 0; phase = 0 }) l)

pub next_contained : (timing : Timing) (places : List Place) → ArePlaces timing places → (from to : ℕ) → from < length places → Contains (following timing (place_of places from).point) to → Contains places (next timing (place_of places from) to)
next_contained timing places are from to l c = All-contains (HasFollowers timing places) places (place_of places from) are.closed (place_contained places from l) to c

edges_from_rise : (timing : Timing) → IsTimed timing → (places : List Place) → ArePlaces timing places → (from : ℕ) → from < length places → AllPairs EdgeBefore (edges_from timing places from)
edges_from_rise timing timed places are from l i j d ij jl =
    let p = place_of places from in
    let tos = following timing p.point in
    let make = edge_to timing places from in
    let jt : j < length tos = omega (arith, jl, length-map tos make) in
    let it : i < length tos = omega (arith, ij, jt) in
    let a = get_or tos i 0 in let b = get_or tos j 0 in
    let ca : Contains tos a = (i, it, get_or_default tos i a 0 it) in
    let cb : Contains tos b = (j, jt, get_or_default tos j b 0 jt) in
    let ab : a < b = timed.rise p.point i j a b ij (slice_get-get_or tos i 0 it) (slice_get-get_or tos j 0 jt) in
    let rises : number_of places (next timing p a) < number_of places (next timing p b) =
    number_rises places (next timing p a) (next timing p b) are.rise (next_contained timing places are from a l ca) (next_contained timing places are from b l cb) (inl ab) in
    subst (λ e. EdgeBefore e (get_or (map make tos) j d)) (sym (get_or-map make tos i 0 d it)) (subst (λ e. EdgeBefore (make a) e) (sym (get_or-map make tos j 0 d jt)) (inr (refl, rises)))

-- ---- all edges

pub edge_in : (timing : Timing) (places : List Place) (n : ℕ) (e : Edge) → Contains (first_edges timing places n) e → (from : ℕ) × (from < n) × ((to : ℕ) × Contains (following timing (place_of places from).point) to × (edge_to timing places from to ≡ e))
unfolding first_edges
edge_in timing places zero e c = absurd (omega (arith, c.1))
edge_in timing places (suc n) e c = elim (Contains-append_cases (first_edges timing places n) (edges_from timing places n) e c) [
  | inl h ↦ (let rest = edge_in timing places n e h in (rest.0, omega (arith, rest.1), rest.2))
  | inr h ↦ (n, omega arith, map_contains (edge_to timing places n) (following timing (place_of places n).point) e h)
]

pub edge_there : (timing : Timing) (places : List Place) (n from to : ℕ) → from < n → Contains (following timing (place_of places from).point) to → Contains (first_edges timing places n) (edge_to timing places from to)
unfolding first_edges
edge_there timing places zero from to l c = absurd (omega (arith, l))
edge_there timing places (suc n) from to l c = elim (cases_lt from n) [
  | inl m ↦ Contains-append_left (first_edges timing places n) (edges_from timing places n) (edge_to timing places from to) (edge_there timing places n from to m c)
  | inr m ↦ (let e : from ≡ n = omega (arith, l, m) in
      Contains-append_right (first_edges timing places n) (edges_from timing places n) (edge_to timing places from to)
      (subst (λ k. Contains (edges_from timing places k) (edge_to timing places from to)) e (contains_map (edge_to timing places from) (following timing (place_of places from).point) to c)))
]

edges_rise : (timing : Timing) → IsTimed timing → (places : List Place) → ArePlaces timing places → (n : ℕ) → n ≤ length places → AllPairs EdgeBefore (first_edges timing places n)
unfolding first_edges
edges_rise timing timed places are zero l = λ i j d ij jl. absurd (omega (arith, jl))
edges_rise timing timed places are (suc n) l =
    pairs_append EdgeBefore (first_edges timing places n) (edges_from timing places n) (edges_rise timing timed places are n (omega (arith, l))) (edges_from_rise timing timed places are n (omega (arith, l)))
    (λ a b ca cb. (
    let front = edge_in timing places n a ca in
    let back = map_contains (edge_to timing places n) (following timing (place_of places n).point) b cb in
    let ea : front.0 ≡ a.from = ap (λ e. e.from) front.2.2 in
    let eb : n ≡ b.from = ap (λ e. e.from) back.2 in
    inl (omega (arith, front.1, ea, eb))))

spot_there : (places : List Place) (i : ℕ) (q : Place) → i < length places → place_of places i ≡ q → slice_get (map spot_by places) i ≡ Some (spot_by q)
spot_there places i q l e =
    let spots = map spot_by places in
    slice_get-get_or spots i (spot_by q) (omega (arith, l, length-map places spot_by)) ∙ ap Some (get_or-map spot_by places i (record { point = 0; phase = 0 }) (spot_by q) l ∙ ap spot_by e)

spot_back : (places : List Place) (i : ℕ) (s : Spot) → slice_get (map spot_by places) i ≡ Some s → (i < length places) × (spot_by (place_of places i) ≡ s)
spot_back places i s e =
    let spots = map spot_by places in
    let l : i < length places = omega (arith, slice_get_within spots i s e, length-map places spot_by) in
    (l, sym (get_or-map spot_by places i (record { point = 0; phase = 0 }) s l) ∙ get_or_from_slice_get spots i s s e)

-- The phase in which an action ends that starts in a place's phase
end_phase : ComesAgain → (timing : Timing) → IsTimed timing → (p : Place) (start to : ℕ) → p.phase ≡ start % cycle_of timing → Contains (following timing p.point) to → end_date timing p.phase to % cycle_of timing ≡ end_date timing start to % cycle_of timing
end_phase again timing timed p start to e c =
    let w = timed.within p.point to c in
    ap (λ n. end_date timing n to % cycle_of timing) e ∙ sym (same_phase again timing timed start to w.0 w.1)

-- An edge that is made from a place is one of the actions that start there.
edge_is : ComesAgain → ComesLate → (timing : Timing) → IsTimed timing → (places : List Place) → ArePlaces timing places → (from to : ℕ) → from < length places → Contains (following timing (place_of places from).point) to →
    (point start reached : ℕ) × IsEdgeOf timing (cycle_of timing) (map spot_by places) point start reached (edge_to timing places from to)
edge_is again late timing timed places are from to l c =
    let p = place_of places from in
    let cycle = cycle_of timing in
    let met : IsMetAt timing p = All-contains (IsMetAt timing) places p are.met (place_contained places from l) in
    let start = met.0 in
    let h : p.point < length timing.points = may_point timing timed p.point start met.1 in
    let later = later_by again timing timed p start h met.2 in
    let w = timed.within p.point to c in
    let q = next timing p to in
    let there : Contains places q = next_contained timing places are from to l c in
    let behind : p.phase < end_date timing p.phase to = end_late late timing timed p.phase to w.0 w.1 in
    let due : p.phase < deadline timing p.point p.phase = deadline_late late timing timed p.point p.phase h in (
      p.point,
      start,
      to,
      record {
        starts = met.1;
        follows = c;
        from = spot_there places from p l refl ∙ ap (λ phase. Some (spot p.point phase)) met.2;
        into = spot_there places (number_of places q) q (number_is places q are.rise there).0 (place_there places q are.rise there) ∙ ap (λ phase. Some (spot to phase)) (end_phase again timing timed p start to met.2 c);
        len = omega (arith, later.begins, later.ends to c, behind);
        due = omega (arith, later.begins, later.due, due);
        weight = refl;
      },
    )

-- An edge of an action that may start is made from the place where it starts.
edge_made : ComesAgain → (timing : Timing) → IsTimed timing → (places : List Place) → ArePlaces timing places → (point start to : ℕ) (e : Edge) → IsEdgeOf timing (cycle_of timing) (map spot_by places) point start to e → Contains (first_edges timing places (length places)) e
edge_made again timing timed places are point start to e is =
    let from = spot_back places e.from (spot_at (cycle_of timing) point start) is.from in
    let into = spot_back places e.to (spot_at (cycle_of timing) to (end_date timing start to)) is.into in
    let p = place_of places e.from in
    let at_point : p.point ≡ point = ap (λ s. s.point) from.1 in
    let at_phase : p.phase ≡ start % cycle_of timing = ap (λ s. s.phase) from.1 in
    let h : p.point < length timing.points = subst (λ n. n < length timing.points) (sym at_point) (may_point timing timed point start is.starts) in
    let c : Contains (following timing p.point) to = subst (λ n. Contains (following timing n) to) (sym at_point) is.follows in
    let later = later_by again timing timed p start h at_phase in
    let q = place_of places e.to in
    let leads : next timing p to ≡ q = same_place (next timing p to) q (sym (ap (λ s. s.point) into.1)) (end_phase again timing timed p start to at_phase c ∙ sym (ap (λ s. s.phase) into.1)) in
    let number : number_of places q ≡ e.to = number_at places q e.to are.rise into.0 (get_or_default places e.to q (record { point = 0; phase = 0 }) into.0) in
    let due_there : deadline timing p.point start ≡ deadline timing point start = ap (λ n. deadline timing n start) at_point in
    let same : edge_to timing places e.from to ≡ e = same_edge (edge_to timing places e.from to) e refl
    (ap (number_of places) leads ∙ number)
    (omega (arith, later.begins, later.ends to c, is.len))
    (omega (arith, later.begins, later.due, is.due, due_there))
    (ap (budget_at timing) at_point ∙ sym is.weight) in
    subst (Contains (first_edges timing places (length places))) same (edge_there timing places (length places) e.from to from.0 c)

-- The edges that are made from all places are those of the graph.
pub are_edges : ComesAgain → ComesLate → (timing : Timing) → IsTimed timing → (places : List Place) → ArePlaces timing places → AreEdges timing (cycle_of timing) (map spot_by places) (first_edges timing places (length places))
are_edges again late timing timed places are = record {
  rise = edges_rise timing timed places are (length places) (omega arith);
  all = λ e. (
    λ c. (let made = edge_in timing places (length places) e c in
        subst (λ x. (point start to : ℕ) × IsEdgeOf timing (cycle_of timing) (map spot_by places) point start to x) made.2.2 (edge_is again late timing timed places are made.0 made.2.0 made.1 made.2.1)),
    λ is. edge_made again timing timed places are is.0 is.1 is.2 e is.3,
  );
}

-- ---- edges as they are made

-- The point of a place is one of the agent's.
pub place_point : (timing : Timing) → IsTimed timing → (places : List Place) → ArePlaces timing places → (from : ℕ) → from < length places → (place_of places from).point < length timing.points
place_point timing timed places are from l =
    let p = place_of places from in
    let met : IsMetAt timing p = All-contains (IsMetAt timing) places p are.met (place_contained places from l) in
    may_point timing timed p.point met.0 met.1

-- An end date of an action that starts at a place lies near.
pub place_end : ComesNear → (timing : Timing) → IsTimed timing → (places : List Place) → AreNear places → (from to : ℕ) → from < length places → Contains (following timing (place_of places from).point) to → end_date timing (place_of places from).phase to ≤ FAR
place_end near timing timed places are from to l c =
    let p = place_of places from in
    let w = timed.within p.point to c in
    let phase : p.phase ≤ STEP * NODES = are from (record { point = 0; phase = 0 }) l in
    omega (arith, phase, end_near near timing timed p.phase to w.0 w.1)

abbrev place : ℕ → ℕ → Place
place point phase = record { point = point; phase = phase }

-- The search finds the number of the place to which an edge leads.
pub leads_to : ComesNear → (timing : Timing) → IsTimed timing → (modulus : ℕ) → IsModulus timing modulus → (places : List Place) → ArePlaces timing places → AreNear places → (from to end number : ℕ) → from < length places →
    Contains (following timing (place_of places from).point) to → end ≡ end_date timing (place_of places from).phase to → IsSought places (place to (end % modulus)) number → number ≡ number_of places (next timing (place_of places from) to)
leads_to near timing timed modulus m places are close from to end number l c e sought =
    let p = place_of places from in
    let far : end ≤ FAR = omega (arith, e, place_end near timing timed places close from to l c) in
    let is : place to (end % modulus) ≡ next timing p to = ap (place to) (m.agrees end far ∙ ap (λ n. n % cycle_of timing) e) in
    sought_at places (next timing p to) number are.rise (subst (λ q. IsSought places q number) is sought) (next_contained timing places are from to l c)

-- An edge from a node
pub edge_same : (timing : Timing) (places : List Place) (from to end number : ℕ) (node : Node) → node ≡ node_of timing (place_of places from) → end ≡ end_date timing (place_of places from).phase to → number ≡ number_of places (next timing (place_of places from) to) →
    (e : Edge) → e ≡ record { from = from; to = number; len = end - node.phase; due = node.due; weight = node.budget } → e ≡ edge_to timing places from to
edge_same timing places from to end number node is ends leads e made =
    let phase : node.phase ≡ (place_of places from).phase = ap (λ n. n.phase) is in
    let made_edge : Edge = record { from = from; to = number; len = end - node.phase; due = node.due; weight = node.budget } in
    made ∙ same_edge made_edge (edge_to timing places from to) refl leads (omega (arith, phase, ends)) (ap (λ n. n.due) is) (ap (λ n. n.budget) is)

pub ends_at : (f : ℕ → ℕ) (ends tos points : List ℕ) (k : ℕ) → ends ≡ map f tos → points ≡ tos → k < length points → get_or ends k 0 ≡ f (get_or points k 0)
ends_at f ends tos points k e pe l =
    let lt : k < length tos = subst (λ xs. k < length xs) pe l in
    ap (λ xs. get_or xs k 0) e ∙ get_or-map f tos k 0 0 lt ∙ ap (λ xs. f (get_or xs k 0)) (sym pe)

-- One more edge
pub edges_more : {X Y : Type 0} (make : X → Y) (old edges new : List Y) (e : Y) (points : List X) (k : ℕ) (d : X) → k < length points → edges ≡ old ++ map make (take k points) → new ≡ edges ++ e ∷ [] → e ≡ make (get_or points k d) → new ≡ old ++ map make (take (k + 1) points)
edges_more make old edges new e points k d l before pushed is =
    pushed ∙ ap (λ x. edges ++ x ∷ []) is ∙ ap (λ xs. xs ++ make (get_or points k d) ∷ []) before
    ∙ append_assoc old (map make (take k points)) (make (get_or points k d) ∷ []) ∙ ap (λ xs. old ++ xs) (sym (map_more make points k d l))

-- ---- the edges of the first places

pub first_none : (timing : Timing) (places : List Place) → [] ≡ first_edges timing places 0
unfolding first_edges
first_none timing places = refl

first_next : (timing : Timing) (places : List Place) (n : ℕ) → first_edges timing places (suc n) ≡ first_edges timing places n ++ edges_from timing places n
unfolding first_edges
first_next timing places n = refl

pub first_more : (timing : Timing) (places : List Place) (n : ℕ) → first_edges timing places (n + 1) ≡ first_edges timing places n ++ edges_from timing places n
first_more timing places n = let e : n + 1 ≡ suc n = omega arith in ap (first_edges timing places) e ∙ first_next timing places n

pub first_longer : (timing : Timing) (places : List Place) (n m : ℕ) → n ≤ m → length (first_edges timing places n) ≤ length (first_edges timing places m)
first_longer timing places n zero l = let e : n ≡ 0 = omega (arith, l) in subst (λ k. length (first_edges timing places k) ≤ length (first_edges timing places 0)) (sym e) (omega arith)
first_longer timing places n (suc m) l = elim (cases_lt m n) [
  | inl h ↦ (let e : n ≡ suc m = omega (arith, l, h) in subst (λ k. length (first_edges timing places k) ≤ length (first_edges timing places (suc m))) (sym e) (omega arith))
  | inr h ↦ (
      let rest : length (first_edges timing places n) ≤ length (first_edges timing places m) = first_longer timing places n m h in
      let more : length (first_edges timing places (suc m)) ≡ length (first_edges timing places m ++ edges_from timing places m) = ap length (first_next timing places m) in
      omega (arith, rest, more, length-append (first_edges timing places m) (edges_from timing places m)))
]
