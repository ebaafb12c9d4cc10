-- The places where actions start are found one by one: each that is found is met, and where no follower is missing all are there.
use Rattle.std.proofs.Common.{◌≡◌, ◌⊎◌, ℕ, zero, suc, ◌+◌, ◌*◌, ◌%◌, ◌<◌, ◌≤◌, List, [], ◌∷◌, All, map, length, get_or, refl, sym, ap, subst, ◌∙◌, inl, inr, arith}
use Rattle.std.specs.List.{AllPairs, Contains, insert}
use Rattle.std.proofs.Math.Nat.{mod-le}
use Rattle.std.proofs.lemmas.List.{get_or-map, length-map}
use Rattle.std.proofs.lemmas.List.Edits.{length-insert}
use Rattle.std.proofs.lemmas.List.Elements.{All-nil, All-cons, All-map, All-contains, All-weaker}
use Rattle.std.proofs.lemmas.List.Sorted.{All-permutation, Contains-permutation, IsPermutation-insert, IsPermutation-sym}
use Rattle.psy_base.specs.declared.limits.TheConstants.{NODES}
use Rattle.psy_meaning.specs.Timing.{Timing, following, first_date, end_date, MayStart, first, later}
use Rattle.psy_meaning.specs.Graph.{SpotBefore, IsMet, AreSpots, PassesNodes}
use Rattle.psy_graph.specs.declared.place.Place.{Place}
use Rattle.psy_graph.specs.Graphs.{IsTimed}
use Rattle.psy_graph.specs.Steps.{STEP, cycle_of}
use Rattle.psy_graph.specs.Places.{spot_by, place_at, Before, IsMetAt, IsRoom, HasFollowers, AreNear, ArePlaces}
use Rattle.psy_graph.proofs.Periods.{clock_lawful, cycle_is}
use Rattle.psy_graph.proofs.Phases.{ComesAgain, ComesNear, end_near, same_phase}
use Rattle.psy_graph.proofs.Rooms.{contains_behind, room_rise, room_for}

abbrev no_place : Place
no_place = record { point = 0; phase = 0 }

pub first_met : (timing : Timing) → IsMetAt timing (place_at timing 0 (first_date timing))
first_met timing = (first_date timing, first, refl)

-- What follows a place that is met is met.
pub follower_met : ComesAgain → (timing : Timing) → IsTimed timing → (p : Place) (to : ℕ) → Contains (following timing p.point) to → IsMetAt timing p → IsMetAt timing (place_at timing to (end_date timing p.phase to))
follower_met again timing timed p to follows met =
    let start = met.0 in
    let within = timed.within p.point to follows in
    (end_date timing start to, later p.point start to met.1 follows, ap (λ n. end_date timing n to % cycle_of timing) met.2 ∙ sym (same_phase again timing timed start to within.0 within.1))

-- Where all followers are there, all places where an action may start are.
pub all_there : ComesAgain → (timing : Timing) → IsTimed timing → (places : List Place) → ArePlaces timing places → (point start : ℕ) → MayStart timing point start → Contains places (place_at timing point start)
all_there again timing timed places are point start first = are.first
all_there again timing timed places are point start (later from begun to may follows) =
    let here : Contains places (place_at timing from begun) = all_there again timing timed places are from begun may in
    let within = timed.within from point follows in
    let next : Contains places (place_at timing point (end_date timing (begun % cycle_of timing) point)) =
    All-contains (HasFollowers timing places) places (place_at timing from begun) are.closed here point follows in
    subst (λ phase. Contains places (record { point = point; phase = phase })) (sym (same_phase again timing timed begun point within.0 within.1)) next

-- ---- a place put among others

pub insert_all : (P : Place → Type 0) (places : List Place) (p : Place) (at : ℕ) → All P places → P p → All P (insert places at p)
insert_all P places p at all one = All-permutation P (p ∷ places) (insert places at p) (IsPermutation-insert places at p) (All-cons P p places one all)

pub insert_kept : (places : List Place) (p : Place) (at : ℕ) (q : Place) → Contains places q → Contains (insert places at p) q
insert_kept places p at q c = Contains-permutation (p ∷ places) (insert places at p) q (IsPermutation-insert places at p) (contains_behind p places q c)

pub insert_has : (places : List Place) (p : Place) (at : ℕ) → Contains (insert places at p) p
insert_has places p at = Contains-permutation (p ∷ places) (insert places at p) p (IsPermutation-insert places at p) (0, omega arith, refl)

front_or_behind : (x : Place) (xs : List Place) (p : Place) → Contains (x ∷ xs) p → Contains xs p ⊎ (x ≡ p)
front_or_behind x xs p (zero, l, e) = inr e
front_or_behind x xs p (suc k, l, e) = inl (k, omega (arith, l), e)

pub insert_cases : (places : List Place) (p : Place) (at : ℕ) (q : Place) → Contains (insert places at p) q → Contains places q ⊎ (p ≡ q)
insert_cases places p at q c =
    front_or_behind p places q (Contains-permutation (insert places at p) (p ∷ places) q (IsPermutation-sym (p ∷ places) (insert places at p) (IsPermutation-insert places at p)) c)

-- ---- places as spots

spots_rise : (places : List Place) → AllPairs Before places → AllPairs SpotBefore (map spot_by places)
spots_rise places rise i j d ij jl =
    let l : j < length places = omega (arith, jl, length-map places spot_by) in
    let ei : get_or (map spot_by places) i d ≡ spot_by (get_or places i no_place) = get_or-map spot_by places i no_place d (omega (arith, ij, l)) in
    let ej : get_or (map spot_by places) j d ≡ spot_by (get_or places j no_place) = get_or-map spot_by places j no_place d l in
    subst (λ a. SpotBefore a (get_or (map spot_by places) j d)) (sym ei) (subst (λ b. SpotBefore (spot_by (get_or places i no_place)) b) (sym ej) (rise i j no_place ij l))

contains_spot : (places : List Place) (p : Place) → Contains places p → Contains (map spot_by places) (spot_by p)
contains_spot places p c =
    (c.0, omega (arith, c.1, length-map places spot_by), get_or-map spot_by places c.0 p (spot_by p) c.1 ∙ ap spot_by c.2)

pub are_spots : ComesAgain → (timing : Timing) → IsTimed timing → (places : List Place) → ArePlaces timing places → AreSpots timing (cycle_of timing) (map spot_by places)
are_spots again timing timed places are = record {
  rise = spots_rise places are.rise;
  all = λ spot. (
    λ c. All-contains (IsMet timing (cycle_of timing)) (map spot_by places) spot (All-map (IsMet timing (cycle_of timing)) spot_by places are.met) c,
    λ met. (let c = contains_spot places (place_at timing spot.point met.0) (all_there again timing timed places are spot.point met.0 met.1) in
        subst (λ phase. Contains (map spot_by places) (record { point = spot.point; phase = phase })) (sym met.2) c),
  );
}

-- ---- exploring

-- One more place that is met is too many.
pub passes : (timing : Timing) → IsTimed timing → (places : List Place) (p : Place) (at : ℕ) → AllPairs Before places → All (IsMetAt timing) places → IsRoom places p at → IsMetAt timing p → NODES ≤ length places → PassesNodes timing
passes timing timed places p at rise met room one many =
    let new = insert places at p in (
      cycle_of timing,
      cycle_is timing timed,
      map spot_by new,
      spots_rise new (room_rise places p at rise room),
      All-map (IsMet timing (cycle_of timing)) spot_by new (insert_all (IsMetAt timing) places p at met one),
      omega (arith, length-map new spot_by, length-insert places at p room.within, many),
    )

too_many : (timing : Timing) → IsTimed timing → (places : List Place) → AllPairs Before places → All (IsMetAt timing) places → NODES < length places → PassesNodes timing
too_many timing timed places rise met many =
    (cycle_of timing, cycle_is timing timed, map spot_by places, spots_rise places rise, All-map (IsMet timing (cycle_of timing)) spot_by places met, omega (arith, length-map places spot_by, many))

-- Where an action from this place that reaches a point is followed
abbrev next : Timing → Place → ℕ → Place
next timing p to = place_at timing to (end_date timing p.phase to)

-- A place, and a point that follows it, whose place isn't among the others
abbrev IsMissing : Timing → List Place → Place → ℕ → Type 0
IsMissing timing places p to = (at : ℕ) × IsRoom places (next timing p to) at

missing_of : (timing : Timing) (places : List Place) → AllPairs Before places → (p : Place) (tos : List ℕ) →
    All (λ to. Contains places (next timing p to)) tos ⊎ ((to : ℕ) × Contains tos to × IsMissing timing places p to)
missing_of timing places rise p [] = inl (All-nil (λ to. Contains places (next timing p to)))
missing_of timing places rise p (to ∷ tos) = elim (room_for places (next timing p to) rise) [
  | inl c ↦ elim (missing_of timing places rise p tos) [
    | inl all ↦ inl (All-cons (λ to. Contains places (next timing p to)) to tos c all)
    | inr m ↦ inr (m.0, (suc m.1.0, omega (arith, m.1.1), m.1.2), m.2)
  ]
  | inr r ↦ inr (to, (0, omega arith, refl), r)
]

missing : (timing : Timing) (places : List Place) → AllPairs Before places → (front : List Place) →
    All (HasFollowers timing places) front ⊎ ((p : Place) × Contains front p × ((to : ℕ) × Contains (following timing p.point) to × IsMissing timing places p to))
missing timing places rise [] = inl (All-nil (HasFollowers timing places))
missing timing places rise (p ∷ front) = elim (missing_of timing places rise p (following timing p.point)) [
  | inl all ↦ elim (missing timing places rise front) [
    | inl rest ↦ inl (All-cons (HasFollowers timing places) p front (λ to c. All-contains (λ q. Contains places (next timing p q)) (following timing p.point) to all c) rest)
    | inr m ↦ inr (m.0, contains_behind p front m.0 m.1, m.2)
  ]
  | inr m ↦ inr (p, (0, omega arith, refl), m)
]

-- Phases lie no farther than so many places can.
abbrev AreWithin : ℕ → List Place → Type 0
AreWithin places = All (λ p. p.phase ≤ STEP * places)

-- A place that follows one lies no farther behind it than a step.
next_within : ComesNear → (timing : Timing) → IsTimed timing → (places : List Place) (p : Place) (to at : ℕ) → AreWithin (length places) places → Contains places p → Contains (following timing p.point) to → at ≤ length places
    → AreWithin (length (insert places at (next timing p to))) (insert places at (next timing p to))
next_within near timing timed places p to at within there follows room =
    let w = timed.within p.point to follows in
    let here : p.phase ≤ STEP * length places = All-contains (λ q. q.phase ≤ STEP * length places) places p within there in
    let end : end_date timing p.phase to ≤ p.phase + STEP = end_near near timing timed p.phase to w.0 w.1 in
    let phase : end_date timing p.phase to % cycle_of timing ≤ end_date timing p.phase to = mod-le (end_date timing p.phase to) (cycle_of timing) in
    let more : length (insert places at (next timing p to)) ≡ suc (length places) = omega (arith, length-insert places at (next timing p to) room) in
    subst (λ n. AreWithin n (insert places at (next timing p to))) (sym more)
    (insert_all (λ q. q.phase ≤ STEP * suc (length places)) places (next timing p to) at
    (All-weaker (λ q. q.phase ≤ STEP * length places) (λ q. q.phase ≤ STEP * suc (length places)) (λ q l. omega (arith, l)) places within) (omega (arith, here, end, phase)))

-- The first place lies in the first period.
first_within : (timing : Timing) → IsTimed timing → AreWithin 1 (place_at timing 0 (first_date timing) ∷ [])
first_within timing timed =
    let lawful = clock_lawful timing timed 0 (omega (arith, timed.head)) in
    let phase : first_date timing % cycle_of timing ≤ first_date timing = mod-le (first_date timing) (cycle_of timing) in
    All-cons (λ p. p.phase ≤ STEP * 1) (place_at timing 0 (first_date timing)) [] (omega (arith, lawful.first, lawful.period, phase)) (All-nil (λ p. p.phase ≤ STEP * 1))

-- So many places can still be found.
grown : ComesAgain → (timing : Timing) → IsTimed timing → (n : ℕ) (places : List Place) → AllPairs Before places → All (IsMetAt timing) places → Contains places (place_at timing 0 (first_date timing)) → (ComesNear → AreWithin (length places) places) → length places + n ≡ NODES + 1 →
    ((all : List Place) × ArePlaces timing all × (length all ≤ NODES) × (ComesNear → AreNear all)) ⊎ PassesNodes timing
grown again timing timed zero places rise met begins within count = inr (too_many timing timed places rise met (omega (arith, count)))
grown again timing timed (suc n) places rise met begins within count = elim (missing timing places rise places) [
  | inl closed ↦ inl (
    places,
    record { met = met; first = begins; rise = rise; closed = closed },
    omega (arith, count),
    λ near. All-weaker (λ q. q.phase ≤ STEP * length places) (λ q. q.phase ≤ STEP * NODES) (λ q l. omega (arith, l, count)) places (within near),
  )
  | inr m ↦ (
      let p = m.0 in let to = m.2.0 in let at = m.2.2.0 in let room = m.2.2.1 in
      let one : IsMetAt timing (next timing p to) = follower_met again timing timed p to m.2.1 (All-contains (IsMetAt timing) places p met m.1) in
      grown again timing timed n (insert places at (next timing p to))
      (room_rise places (next timing p to) at rise room)
      (insert_all (IsMetAt timing) places (next timing p to) at met one)
      (insert_kept places (next timing p to) at (place_at timing 0 (first_date timing)) begins)
      (λ near. next_within near timing timed places p to at (within near) m.1 m.2.1 room.within)
      (omega (arith, count, length-insert places at (next timing p to) room.within)))
]

-- The places where actions start are no more than a graph's nodes, or pass them.
pub all_places : ComesAgain → (timing : Timing) → IsTimed timing → ((all : List Place) × ArePlaces timing all × (length all ≤ NODES) × (ComesNear → AreNear all)) ⊎ PassesNodes timing
all_places again timing timed =
    let p = place_at timing 0 (first_date timing) in
    grown again timing timed NODES (p ∷ []) (λ i j d ij jl. absurd (omega (arith, ij, jl))) (All-cons (IsMetAt timing) p [] (first_met timing) (All-nil (IsMetAt timing))) (0, omega arith, refl) (λ near. first_within timing timed) (omega arith)
