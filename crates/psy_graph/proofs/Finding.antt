-- What a place that is found adds to what was found before.
use Rattle.std.proofs.Common.{◌≡◌, ℕ, ◌+◌, ◌*◌, ◌%◌, ◌<◌, ◌≤◌, List, [], ◌∷◌, ◌++◌, All, length, length-append, get_or, refl, sym, ap, subst, ◌∙◌, inl, inr, arith}
use Rattle.std.specs.List.{Contains, insert}
use Rattle.std.proofs.Math.Nat.{mod-le}
use Rattle.std.proofs.lemmas.Bool.{cases_lt}
use Rattle.std.proofs.lemmas.List.{get_or_append_left, get_or_push, get_or_default}
use Rattle.std.proofs.lemmas.List.Edits.{length-insert}
use Rattle.std.proofs.lemmas.List.Elements.{All-nil, All-cons, All-contains_itself, All-weaker, Contains-append_left, Contains-push, Contains-push_cases}
use Rattle.psy_base.specs.declared.limits.TheConstants.{NODES}
use Rattle.psy_clock.specs.declared.clock.TheConstants.{PERIOD}
use Rattle.psy_meaning.specs.Timing.{Timing, following, first_date, end_date}
use Rattle.psy_graph.specs.declared.cycle.TheConstants.{FAR}
use Rattle.psy_graph.specs.declared.place.Place.{Place}
use Rattle.psy_graph.specs.Graphs.{IsTimed}
use Rattle.psy_graph.specs.Steps.{STEP, IsModulus, cycle_of}
use Rattle.psy_graph.specs.Places.{place_at, IsMetAt, IsRoom, IsAdded, IsFront, HasFollowers, AreFound, ArePlaces, AreNear, follower}
use Rattle.psy_graph.proofs.Periods.{clock_lawful}
use Rattle.psy_graph.proofs.Rooms.{room_rise}
use Rattle.psy_graph.proofs.Reached.{first_met, insert_all, insert_kept, insert_has, insert_cases}

abbrev place : ℕ → ℕ → Place
place point phase = record { point = point; phase = phase }

near_push : (work : List Place) (p : Place) → ((i : ℕ) (d : Place) → i < length work → (get_or work i d).phase ≤ STEP * (i + 1)) → p.phase ≤ STEP * (length work + 1) →
    (i : ℕ) (d : Place) → i < length (work ++ p ∷ []) → (get_or (work ++ p ∷ []) i d).phase ≤ STEP * (i + 1)
near_push work p near one i d l = elim (cases_lt i (length work)) [
  | inl m ↦ subst (λ q. q.phase ≤ STEP * (i + 1)) (sym (get_or_append_left work (p ∷ []) d i m)) (near i d m)
  | inr m ↦ (
      let is : length work ≡ i = omega (arith, l, m, length-append work (p ∷ [])) in
      subst (λ q. q.phase ≤ STEP * (i + 1)) (sym (get_or_push work p d i is)) (subst (λ n. p.phase ≤ STEP * (n + 1)) is one))
]

found_pushed : (timing : Timing) (work places : List Place) (p : Place) (at : ℕ) → AreFound timing work places → IsMetAt timing p → p.phase ≤ STEP * (length work + 1) → IsRoom places p at → AreFound timing (work ++ p ∷ []) (insert places at p)
found_pushed timing work places p at found one near room = record {
  met = insert_all (IsMetAt timing) places p at found.met one;
  first = insert_kept places p at (place_at timing 0 (first_date timing)) found.first;
  rise = room_rise places p at found.rise room;
  same = λ q. (
    λ c. elim (Contains-push_cases work p q c) [
      | inl h ↦ insert_kept places p at q ((found.same q).0 h)
      | inr e ↦ subst (Contains (insert places at p)) e (insert_has places p at)
    ],
    λ c. elim (insert_cases places p at q c) [
      | inl h ↦ Contains-append_left work (p ∷ []) q ((found.same q).1 h)
      | inr e ↦ subst (Contains (work ++ p ∷ [])) e (Contains-push work p)
    ],
  );
  count = omega (arith, found.count, length-append work (p ∷ []), length-insert places at p room.within);
  near = near_push work p found.near near;
}

module _ (p : Place) (work places work_new places_new : List Place) where
  pub found_added : (timing : Timing) → AreFound timing work places → IsMetAt timing p → p.phase ≤ STEP * (length work + 1) → IsAdded p work places work_new places_new → AreFound timing work_new places_new
  found_added timing found one near added = elim added [
    | inl h ↦ subst (λ w. AreFound timing w places_new) (sym h.1) (subst (AreFound timing work) (sym h.2) found)
    | inr h ↦ subst (λ w. AreFound timing w places_new) (sym h.2) (subst (AreFound timing (work ++ p ∷ [])) (sym h.3) (found_pushed timing work places p h.0 found one near h.1))
  ]

  pub added_has : IsAdded p work places work_new places_new → Contains places_new p
  added_has added = elim added [
    | inl h ↦ subst (λ xs. Contains xs p) (sym h.2) h.0
    | inr h ↦ subst (λ xs. Contains xs p) (sym h.3) (insert_has places p h.0)
  ]

  pub added_kept : IsAdded p work places work_new places_new → (q : Place) → Contains places q → Contains places_new q
  added_kept added q c = elim added [
    | inl h ↦ subst (λ xs. Contains xs q) (sym h.2) c
    | inr h ↦ subst (λ xs. Contains xs q) (sym h.3) (insert_kept places p h.0 q c)
  ]

  pub added_front : IsAdded p work places work_new places_new → (i : ℕ) (d : Place) → i < length work → (i < length work_new) × (get_or work_new i d ≡ get_or work i d)
  added_front added i d l = elim added [
    | inl h ↦ subst (λ xs. (i < length xs) × (get_or xs i d ≡ get_or work i d)) (sym h.1) (l, refl)
    | inr h ↦ subst (λ xs. (i < length xs) × (get_or xs i d ≡ get_or work i d)) (sym h.2) (omega (arith, l, length-append work (p ∷ [])), get_or_append_left work (p ∷ []) d i l)
  ]

-- ---- dates that are found

-- What a place that follows is made from lies near.
pub end_far : (at n phase end : ℕ) → at < n → n ≤ NODES → phase ≤ STEP * (at + 1) → end ≤ phase + STEP → end ≤ FAR
end_far at n phase end l few near step = omega (arith, l, few, near, step)

pub phase_near : (at n phase end modulus : ℕ) → at < n → phase ≤ STEP * (at + 1) → end ≤ phase + STEP → end % modulus ≤ STEP * (n + 1)
phase_near at n phase end modulus l near step = let le : end % modulus ≤ end = mod-le end modulus in omega (arith, l, near, step, le)

-- The place that is made is that where the action is followed.
pub place_made : (timing : Timing) (modulus phase to end : ℕ) → IsModulus timing modulus → end ≡ end_date timing phase to → end ≤ FAR → place to (end % modulus) ≡ place_at timing to (end_date timing phase to)
place_made timing modulus phase to end m e far = ap (place to) (m.agrees end far ∙ ap (λ n. n % cycle_of timing) e)

-- A place in the work is among the places.
pub worked : (timing : Timing) (work places : List Place) (at : ℕ) (d : Place) → AreFound timing work places → at < length work → Contains places (get_or work at d)
worked timing work places at d found l = (found.same (get_or work at d)).0 (at, l, get_or_default work at (get_or work at d) d l)

pub done_more : (P : ℕ → Type 0) (tos : List ℕ) (n : ℕ) → ((k : ℕ) → k < n → P (get_or tos k 0)) → P (get_or tos n 0) → (k : ℕ) → k < n + 1 → P (get_or tos k 0)
done_more P tos n done one k l = elim (cases_lt k n) [
  | inl h ↦ done k h
  | inr h ↦ (let is : k ≡ n = omega (arith, l, h) in subst (λ j. P (get_or tos j 0)) (sym is) one)
]

pub all_done : (timing : Timing) (places : List Place) (p : Place) → ((k : ℕ) → k < length (following timing p.point) → Contains places (place_at timing (get_or (following timing p.point) k 0) (end_date timing p.phase (get_or (following timing p.point) k 0)))) → HasFollowers timing places p
all_done timing places p done to c =
    let tos = following timing p.point in
    let is : get_or tos c.0 0 ≡ to = get_or_default tos c.0 0 to c.1 ∙ c.2 in
    subst (λ n. Contains places (place_at timing n (end_date timing p.phase n))) is (done c.0 c.1)

-- ---- the whole work

-- The first place is found.
pub found_first : (timing : Timing) (p : Place) → p ≡ place_at timing 0 (first_date timing) → p.phase ≤ STEP → AreFound timing (p ∷ []) (p ∷ [])
found_first timing p is near = record {
  met = subst (λ q. All (IsMetAt timing) (q ∷ [])) (sym is) (All-cons (IsMetAt timing) (place_at timing 0 (first_date timing)) [] (first_met timing) (All-nil (IsMetAt timing)));
  first = subst (Contains (p ∷ [])) is (0, omega arith, refl);
  rise = λ i j d ij jl. absurd (omega (arith, ij, jl));
  same = λ q. (λ c. c, λ c. c);
  count = refl;
  near = near_push [] p (λ i d l. absurd (omega (arith, l))) (omega (arith, near));
}

-- The first date is near.
pub first_near : (timing : Timing) → IsTimed timing → first_date timing ≤ PERIOD
first_near timing timed =
    let lawful = clock_lawful timing timed 0 (omega (arith, timed.head)) in omega (arith, lawful.first, lawful.period)

-- The place where the first action starts, as it is made
pub first_made : (timing : Timing) (modulus date : ℕ) → IsTimed timing → IsModulus timing modulus → date ≡ first_date timing → place 0 (date % modulus) ≡ place_at timing 0 (first_date timing)
first_made timing modulus date timed m e =
    let near = first_near timing timed in
    ap (place 0) (m.agrees date (omega (arith, near, e)) ∙ ap (λ n. n % cycle_of timing) e)

-- Followers stay found where more is.
followers_kept : (timing : Timing) (places more : List Place) (p : Place) → ((q : Place) → Contains places q → Contains more q) → HasFollowers timing places p → HasFollowers timing more p
followers_kept timing places more p kept h to c = kept (follower timing p to) (h to c)

-- One place of the work is done.
pub work_more : (timing : Timing) (work places more_work more_places : List Place) (at : ℕ) →
    ((i : ℕ) (d : Place) → i < at → i < length work → HasFollowers timing places (get_or work i d)) → at < length work →
    IsFront work more_work → ((q : Place) → Contains places q → Contains more_places q) → ((d : Place) → HasFollowers timing more_places (get_or work at d)) →
    (i : ℕ) (d : Place) → i < at + 1 → i < length more_work → HasFollowers timing more_places (get_or more_work i d)
work_more timing work places more_work more_places at done l front kept one i d il _ =
    let within : i < length work = omega (arith, il, l) in
    let same : get_or more_work i d ≡ get_or work i d = (front i d within).1 in
    subst (HasFollowers timing more_places) (sym same) (elim (cases_lt i at) [
      | inl m ↦ followers_kept timing places more_places (get_or work i d) kept (done i d m within)
      | inr m ↦ (let is : i ≡ at = omega (arith, il, m) in subst (λ k. HasFollowers timing more_places (get_or work k d)) (sym is) (one d))
    ])

-- What holds of each item of the work holds of each place.
each_place : (P : Place → Type 0) (timing : Timing) (work places : List Place) → AreFound timing work places → ((i : ℕ) (d : Place) → i < length work → P (get_or work i d)) → All P places
each_place P timing work places found each =
    All-weaker (Contains places) P (λ p c. (let w = (found.same p).1 c in subst P w.2 (each w.0 p w.1))) places (All-contains_itself places)

-- When all work is done, all places are found.
pub work_done : (timing : Timing) (work places : List Place) → AreFound timing work places → ((i : ℕ) (d : Place) → i < length work → HasFollowers timing places (get_or work i d)) → ArePlaces timing places
work_done timing work places found done = record {
  met = found.met;
  first = found.first;
  rise = found.rise;
  closed = each_place (HasFollowers timing places) timing work places found done;
}

pub work_near : (timing : Timing) (work places : List Place) → AreFound timing work places → length places ≤ NODES → AreNear places
work_near timing work places found few =
    each_place (λ p. p.phase ≤ STEP * NODES) timing work places found (λ i d l. (let n = found.near i d l in omega (arith, n, l, few, found.count)))
