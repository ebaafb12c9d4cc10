-- How the stretches of a processor lie: each has the cycles that go to its action, what lies between them goes to none, and they are as long as can be.
use Rattle.std.proofs.Common.{◌≡◌, ◌∙◌, refl, sym, ap, subst, ℕ, suc, ◌+◌, ◌<◌, ◌≤◌, ◌==◌, ◌&&◌, nat_le, Bool, true, false, if◌then◌else◌, List, [], ◌∷◌, ◌++◌, append_assoc, reverse, Option, Some, None, inl, inr, arith}
use Rattle.std.specs.Prelude.{⊤}
use Rattle.std.specs.List.{AllPairs, Contains}
use Rattle.std.proofs.lemmas.Bool.{and_parts, cases_eq, cases_lt, eq-eqb, eqb-true, leb-true}
use Rattle.std.proofs.lemmas.List.{reverse-append, reverse-reverse}
use Rattle.std.proofs.lemmas.List.Kept.{AllPairs-cons}
use Rattle.std.proofs.lemmas.Option.{none-some}
use Rattle.psy_lists.proofs.lemmas.Members.{all_members, contains_front, contains_behind, contains_none, front_or_behind}
use Rattle.psy_lists.proofs.lemmas.Tests.{differ, not_true}
use Rattle.psy_history.specs.Schedule.{Turn}
use Rattle.psy_audit.specs.declared.said.Segment.{Segment}
use Rattle.psy_audit.specs.Traced.{one_cycle, with_cycle}
use Rattle.psy_audit.specs.Traces.{last_of}
use Rattle.psy_audit.specs.Turns.{past_of, touches}
use Rattle.psy_legal.proofs.Lists.{reverse_front}
use Rattle.psy_legal.proofs.Splits.{last_pushed}

-- The action that a stretch goes to
abbrev pub turn_in : Segment → Turn
turn_in s = record { agent = s.agent; number = s.number }

-- A stretch of a processor whose cycles go to these turns, the last one before a cycle: its own go to its action, and those behind it to none.
pub record IsTile (goes : ℕ → Option Turn) (processor n : ℕ) (s : Segment) : Type 0 where
  pub processor_is : s.processor ≡ processor
  pub filled : s.first < s.past
  pub within : s.past ≤ n
  pub own : (c : ℕ) → s.first ≤ c → c < s.past → goes c ≡ Some (turn_in s)
  pub idle : (c : ℕ) → s.past ≤ c → c < n → goes c ≡ None

-- The one before doesn't end where it begins, or is of another action.
abbrev pub Apart : Segment → List Segment → Type 0
Apart s [] = ⊤
Apart s (t ∷ before) = t.past ≡ s.first → t.agent ≡ s.agent → t.number ≡ s.number → ⊥

-- The stretches before a cycle, the last one first
abbrev pub Tiles : (ℕ → Option Turn) → ℕ → ℕ → List Segment → Type 0
Tiles goes processor n [] = (c : ℕ) → c < n → goes c ≡ None
Tiles goes processor n (s ∷ before) = IsTile goes processor n s × Apart s before × Tiles goes processor s.first before

-- ---- one cycle more

module _ (goes : ℕ → Option Turn) (processor n : ℕ) where
  idle_more : (from : ℕ) → goes n ≡ None → ((c : ℕ) → from ≤ c → c < n → goes c ≡ None) → (c : ℕ) → from ≤ c → c < suc n → goes c ≡ None
  idle_more from none idle c low high = elim (cases_eq c n) [
    | inl same ↦ ap goes same ∙ none
    | inr other ↦ idle c low (omega (arith, high, other))
  ]

  one_tile : (turn : Turn) → goes n ≡ Some turn → IsTile goes processor (suc n) (one_cycle processor n turn)
  one_tile turn is = record {
    processor_is = refl;
    filled = omega arith;
    within = omega arith;
    own = λ c low high. (let same : c ≡ n = omega (arith, low, high) in ap goes same ∙ is);
    idle = λ c low high. absurd (omega (arith, low, high));
  }

  longer : (turn : Turn) (s : Segment) (t : Bool) (before : List Segment) → goes n ≡ Some turn → (s.past == n && (s.agent == turn.agent && s.number == turn.number)) ≡ t → Tiles goes processor n (s ∷ before)
      → Tiles goes processor (suc n) (if t then record s { past = n + 1 } ∷ before else one_cycle processor n turn ∷ s ∷ before)
  longer turn s true before is test (tile, apart, rest) =
      let both = and_parts (s.past == n) (s.agent == turn.agent && s.number == turn.number) test in
      let its = and_parts (s.agent == turn.agent) (s.number == turn.number) both.1 in
      let past : s.past ≡ n = eqb-true s.past n both.0 in
      let agent : s.agent ≡ turn.agent = eqb-true s.agent turn.agent its.0 in
      let number : s.number ≡ turn.number = eqb-true s.number turn.number its.1 in
      let same : Some turn ≡ Some (turn_in s) = λ i. Some (record { agent = sym agent i; number = sym number i }) in (
        record {
          processor_is = tile.processor_is;
          filled = omega (arith, tile.filled, past);
          within = omega arith;
          own = λ c low high. elim (cases_eq c n) [
            | inl here ↦ ap goes here ∙ is ∙ same
            | inr other ↦ tile.own c low (omega (arith, high, other, past))
          ];
          idle = λ c low high. absurd (omega (arith, low, high));
        },
        apart,
        rest,
      )
  longer turn s false before is test tiles = (one_tile turn is, (λ past agent number. differ (sym (all_same past agent number) ∙ test)), tiles)
    where
      all_same : s.past ≡ n → s.agent ≡ turn.agent → s.number ≡ turn.number → (s.past == n && (s.agent == turn.agent && s.number == turn.number)) ≡ true
      all_same past agent number = rw (eq-eqb s.past n past, eq-eqb s.agent turn.agent agent, eq-eqb s.number turn.number number) refl

  tiles_with : (turn : Option Turn) (st : List Segment) → goes n ≡ turn → Tiles goes processor n st → Tiles goes processor (suc n) (with_cycle processor n turn st)
  tiles_with None [] is tiles = λ c less. idle_more 0 is (λ c low. tiles c) c (omega arith) less
  tiles_with None (s ∷ before) is (tile, apart, rest) =
      (record { processor_is = tile.processor_is; filled = tile.filled; within = omega (arith, tile.within); own = tile.own; idle = idle_more s.past is tile.idle }, apart, rest)
  tiles_with (Some turn) [] is tiles = (one_tile turn is, tt {0}, tiles)
  tiles_with (Some turn) (s ∷ before) is tiles = longer turn s (s.past == n && (s.agent == turn.agent && s.number == turn.number)) before is refl tiles

  pub tiles_more : (st : List Segment) → Tiles goes processor n st → Tiles goes processor (suc n) (with_cycle processor n (goes n) st)
  tiles_more st tiles = tiles_with (goes n) st refl tiles

-- ---- what they keep

-- The first item of a list
abbrev pub first_in : {X : Type 0} → List X → Option X
first_in [] = None
first_in (x ∷ xs) = Some x

module _ (goes : ℕ → Option Turn) (processor : ℕ) where
  -- Each of them is one, before some cycle.
  pub tile_of : (n : ℕ) (st : List Segment) (s : Segment) → Tiles goes processor n st → Contains st s → (m : ℕ) × (m ≤ n) × IsTile goes processor m s
  tile_of n [] s tiles c = absurd (contains_none s c)
  tile_of n (t ∷ before) s (tile, apart, rest) c = elim (front_or_behind t before s c) [
    | inl e ↦ (n, omega arith, subst (IsTile goes processor n) e tile)
    | inr behind ↦ (
        let (m, few, is) = tile_of t.first before s rest behind in
        (m, omega (arith, few, tile.filled, tile.within), is))
  ]

  -- A cycle that goes to an action is one of some stretch.
  pub covered : (n : ℕ) (st : List Segment) (c : ℕ) (turn : Turn) → Tiles goes processor n st → c < n → goes c ≡ Some turn → (s : Segment) × Contains st s × (s.first ≤ c) × (c < s.past)
  covered n [] c turn tiles less is = absurd (none-some turn (sym (tiles c less) ∙ is))
  covered n (s ∷ before) c turn (tile, apart, rest) less is = elim (cases_lt c s.past) [
    | inr late ↦ absurd (none-some turn (sym (tile.idle c late less) ∙ is))
    | inl early ↦ elim (cases_lt c s.first) [
      | inr here ↦ (s, contains_front s before, here, early)
      | inl before_it ↦ (
          let (t, there, low, high) = covered s.first before c turn rest before_it is in
          (t, contains_behind s before t there, low, high))
    ]
  ]

  -- Where they are split, the rest are those before a cycle.
  pub tiles_behind : (n : ℕ) (later : List Segment) (s : Segment) (before : List Segment) → Tiles goes processor n (later ++ s ∷ before) → (m : ℕ) × (m ≤ n) × Tiles goes processor m (s ∷ before)
  tiles_behind n [] s before tiles = (n, omega arith, tiles)
  tiles_behind n (t ∷ later) s before (tile, apart, rest) =
      let (m, few, is) = tiles_behind t.first later s before rest in
      (m, omega (arith, few, tile.filled, tile.within), is)

  -- Behind the last one no cycle goes to an action.
  pub gap : (n : ℕ) (st : List Segment) → Tiles goes processor n st → (c : ℕ) → past_of (first_in st) ≤ c → c < n → goes c ≡ None
  gap n [] tiles c low high = tiles c high
  gap n (s ∷ before) (tile, apart, rest) c low high = tile.idle c low high

  behind_first : (n : ℕ) (t : Segment) (before : List Segment) (u : Segment) → Tiles goes processor n (t ∷ before) → Contains before u → u.past < n
  behind_first n t before u (tile, apart, rest) c =
      let (m, few, is) = tile_of t.first before u rest c in
      omega (arith, few, is.within, tile.filled, tile.within)

  -- None touches one before it of its action.
  pub untouched : (m : ℕ) (s : Segment) (before : List Segment) (t : Segment) → Tiles goes processor m (s ∷ before) → Contains before t → touches s t ≡ false
  untouched m s [] t tiles c = absurd (contains_none t c)
  untouched m s (u ∷ before) t (tile, apart, rest) c = not_true (touches s t) (λ (touch : touches s t ≡ true).
      let agent = and_parts (t.agent == s.agent) (t.number == s.number && nat_le s.first t.past) touch in
      let number = and_parts (t.number == s.number) (nat_le s.first t.past) agent.1 in
      let reach : s.first ≤ t.past = leb-true s.first t.past number.1 in
      elim (front_or_behind u before t c) [
        | inl e ↦ (
            let past : u.past ≡ s.first = (let same : u.past ≡ t.past = ap (λ (x : Segment). x.past) e in omega (arith, reach, rest.0.within, same)) in
            apart past (ap (λ (x : Segment). x.agent) e ∙ eqb-true t.agent s.agent agent.0) (ap (λ (x : Segment). x.number) e ∙ eqb-true t.number s.number number.0))
        | inr behind ↦ (let low = behind_first s.first u before t rest behind in omega (arith, low, reach))
      ])

  -- They rise.
  pub tiles_rise : (n : ℕ) (st : List Segment) → Tiles goes processor n st → AllPairs (λ (s t : Segment). t.first < s.first) st
  tiles_rise n [] tiles = λ i j d less within. absurd (omega (arith, less, within))
  tiles_rise n (s ∷ before) (tile, apart, rest) =
      AllPairs-cons (λ (s t : Segment). t.first < s.first) s before
      (all_members (λ (t : Segment). t.first < s.first) before (λ t c. let (m, few, is) = tile_of s.first before t rest c in omega (arith, few, is.filled, is.within)))
      (tiles_rise s.first before rest)

-- ---- turned round

pub last_reverse : {X : Type 0} (xs : List X) → last_of (reverse xs) ≡ first_in xs
last_reverse [] = refl
last_reverse (x ∷ xs) = ap last_of (reverse_front x xs) ∙ last_pushed (reverse xs) x

-- A list that is split, turned round
pub reverse_split : {X : Type 0} (xs front : List X) (x : X) (back : List X) → reverse xs ≡ front ++ x ∷ back → xs ≡ reverse back ++ x ∷ reverse front
reverse_split xs front x back e =
    sym (reverse-reverse xs) ∙ ap reverse e ∙ reverse-append front (x ∷ back) ∙ ap (λ ys. ys ++ reverse front) (reverse_front x back) ∙ assoc (reverse back) (reverse front)
  where
    assoc : (ys zs : List _) → (ys ++ x ∷ []) ++ zs ≡ ys ++ x ∷ zs
    assoc ys zs = append_assoc ys (x ∷ []) zs
