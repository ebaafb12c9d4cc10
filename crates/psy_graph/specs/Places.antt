-- The places where actions start, in their order, and how they are found.
use Rattle.std.specs.Prelude.{◌≡◌, ◌⊎◌, ◌↔◌, ℕ, ◌+◌, ◌*◌, ◌<◌, ◌≤◌, ◌%◌, List, [], ◌∷◌, ◌++◌, length, slice_index_or}
use Rattle.std.specs.List.{All, AllPairs, Contains, insert}
use Rattle.psy_base.specs.declared.limits.TheConstants.{NODES}
use Rattle.psy_meaning.specs.Timing.{Timing, following, end_date, first_date}
use Rattle.psy_meaning.specs.Graph.{Spot, SpotBefore, IsMet}
use Rattle.psy_graph.specs.declared.place.Place.{Place}
use Rattle.psy_graph.specs.Steps.{STEP, cycle_of}

-- The points that may follow one of an agent with so many points: some, and none of them the head
abbrev pub IsList : ℕ → List ℕ → Type 0
IsList points list = (0 < length list) × All (λ to. (1 ≤ to) × (to < points)) list

-- The spot of a place
abbrev pub spot_by : Place → Spot
spot_by place = record { point = place.point; phase = place.phase }

-- Where an action of the agent from a point starts that starts at a date
abbrev pub place_at : Timing → ℕ → ℕ → Place
place_at timing point start = record { point = point; phase = start % cycle_of timing }

-- In order of the point, then of the phase
abbrev pub Before : Place → Place → Type 0
Before a b = SpotBefore (spot_by a) (spot_by b)

-- Some action may start there.
abbrev pub IsMetAt : Timing → Place → Type 0
IsMetAt timing place = IsMet timing (cycle_of timing) (spot_by place)

-- A place that isn't among others has its own there: those below stand before it, the rest behind it.
pub record IsRoom (places : List Place) (place : Place) (at : ℕ) : Type 0 where
  pub within : at ≤ length places
  pub below : (i : ℕ) (d : Place) → i < at → Before (slice_index_or places i d) place
  pub above : (i : ℕ) (d : Place) → at ≤ i → i < length places → Before place (slice_index_or places i d)

-- So many of the places stand before a place, those at the front.
pub record IsSought (places : List Place) (place : Place) (at : ℕ) : Type 0 where
  pub within : at ≤ length places
  pub below : (i : ℕ) (d : Place) → i < at → Before (slice_index_or places i d) place
  pub above : (i : ℕ) (d : Place) → at ≤ i → i < length places → Before (slice_index_or places i d) place → ⊥

-- A place is found: it was among the others, or it goes to the end of the work and to its own place among them.
abbrev pub IsAdded : Place → List Place → List Place → List Place → List Place → Type 0
IsAdded place work places work_new places_new =
    (Contains places place × (work_new ≡ work) × (places_new ≡ places))
    ⊎ ((at : ℕ) × IsRoom places place at × (work_new ≡ work ++ place ∷ []) × (places_new ≡ insert places at place))

-- Where an action from this place that reaches a point is followed
abbrev pub follower : Timing → Place → ℕ → Place
follower timing place to = place_at timing to (end_date timing place.phase to)

-- The places of all actions that may follow one from this place are found.
abbrev pub HasFollowers : Timing → List Place → Place → Type 0
HasFollowers timing places place = (to : ℕ) → Contains (following timing place.point) to → Contains places (follower timing place to)

-- The items of a list stand at the front of another.
abbrev pub IsFront : List Place → List Place → Type 0
IsFront front work = (i : ℕ) (d : Place) → i < length front → (i < length work) × (slice_index_or work i d ≡ slice_index_or front i d)

-- Phases lie no farther than that many found places can.
abbrev pub AreNear : List Place → Type 0
AreNear places = All (λ place. place.phase ≤ STEP * NODES) places

-- What was found so far, in the order of finding and in order of point and phase. Each was found from one before it, so the
-- number of those before it tells how late its date may be.
pub record AreFound (timing : Timing) (work places : List Place) : Type 0 where
  pub met : All (IsMetAt timing) places
  pub first : Contains places (place_at timing 0 (first_date timing))
  pub rise : AllPairs Before places
  pub same : (place : Place) → Contains work place ↔ Contains places place
  pub count : length work ≡ length places
  pub near : (i : ℕ) (d : Place) → i < length work → (slice_index_or work i d).phase ≤ STEP * (i + 1)

-- All places where actions start, in order
pub record ArePlaces (timing : Timing) (places : List Place) : Type 0 where
  pub met : All (IsMetAt timing) places
  pub first : Contains places (place_at timing 0 (first_date timing))
  pub rise : AllPairs Before places
  pub closed : All (HasFollowers timing places) places
