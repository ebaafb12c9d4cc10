-- The cycles of an action, counted over its stretches, are those that go to it.
use Rattle.std.proofs.Common.{◌≡◌, ◌∙◌, refl, sym, ap, subst, ℕ, zero, suc, ◌+◌, ◌<◌, ◌≤◌, ◌==◌, nat_le, nat_lt, Bool, true, false, cond, List, [], ◌∷◌, map, Option, Some, None, inl, inr, arith}
use Rattle.std.proofs.lemmas.List.Sums.{sum_by-cons}
use Rattle.std.proofs.lemmas.Option.{same_Some}
use Rattle.std.specs.List.{Contains, count_by, list_all, list_any, range_with_len}
use Rattle.std.proofs.lemmas.Bool.{and_from, and_parts, cases_Bool, cases_eq, eq-eqb, eqb-true, le-leb, leb-true, lt-ltb, ltb-true}
use Rattle.psy_base.specs.Extremes.{most_of}
use Rattle.psy_lists.proofs.lemmas.Members.{contains_behind, contains_front, contains_map, contains_none, front_or_behind, map_contains}
use Rattle.psy_lists.proofs.lemmas.Ranges.{sum_more}
use Rattle.psy_lists.proofs.lemmas.Tests.{not_true, differ}
use Rattle.psy_history.specs.Schedule.{Turn, is_of}
use Rattle.psy_audit.specs.declared.said.Segment.{Segment}
use Rattle.psy_audit.specs.Courses.{cycles_in, has_cycle}
use Rattle.psy_legal.proofs.Tiles.{Tiles, covered, tile_of, turn_in}

-- ---- tests and counts

pub any_of : {X : Type 0} (p : X → Bool) (xs : List X) (x : X) → Contains xs x → p x ≡ true → list_any p xs ≡ true
any_of p [] x c is = absurd (contains_none x c)
any_of p (y ∷ xs) x c is = elim (cases_Bool (p y)) [
  | inl t ↦ rw t refl
  | inr f ↦ elim (front_or_behind y xs x c) [
    | inl e ↦ rw (ap p e ∙ is) refl
    | inr rest ↦ rw f (any_of p xs x rest is)
  ]
]

pub any_none : {X : Type 0} (p : X → Bool) (xs : List X) → ((x : X) → Contains xs x → p x ≡ false) → list_any p xs ≡ false
any_none p [] none = refl
any_none p (y ∷ xs) none = rw (none y (contains_front y xs)) (any_none p xs (λ x c. none x (contains_behind y xs x c)))

pub all_pass : {X : Type 0} (p : X → Bool) (xs : List X) → ((x : X) → Contains xs x → p x ≡ true) → list_all p xs ≡ true
all_pass p [] all = refl
all_pass p (y ∷ xs) all = rw (all y (contains_front y xs)) (all_pass p xs (λ x c. all x (contains_behind y xs x c)))

-- Where a test fails from one number on, no more are counted behind it.
pub count_longer : (p : ℕ → Bool) (few n : ℕ) → few ≤ n → ((k : ℕ) → few ≤ k → k < n → p k ≡ false) → count_by p (range_with_len 0 n) ≡ count_by p (range_with_len 0 few)
count_longer p few zero l none = (let same : 0 ≡ few = omega (arith, l) in ap (λ m. count_by p (range_with_len 0 m)) same)
count_longer p few (suc n) l none = elim (cases_eq few (suc n)) [
  | inl same ↦ ap (λ m. count_by p (range_with_len 0 m)) (sym same)
  | inr other ↦ (
      let more : suc n ≡ n + 1 = omega arith in
      let last : cond {A = ℕ} (p n) 1 0 ≡ 0 = ap (λ t. cond {A = ℕ} t 1 0) (none n (omega (arith, l, other)) (omega arith)) in
      let rest = count_longer p few n (omega (arith, l, other)) (λ k low high. none k low (omega (arith, high))) in
      let sum = sum_more (λ k. cond {A = ℕ} (p k) 1 0) n in
      ap (λ m. count_by p (range_with_len 0 m)) more ∙ sum ∙ (let even : count_by p (range_with_len 0 n) + cond {A = ℕ} (p n) 1 0 ≡ count_by p (range_with_len 0 n) = omega (arith, last) in even) ∙ rest)
]

pub count_same : (p q : ℕ → Bool) (from n : ℕ) → ((k : ℕ) → from ≤ k → k < from + n → p k ≡ q k) → count_by p (range_with_len from n) ≡ count_by q (range_with_len from n)
count_same p q from zero same = refl
count_same p q from (suc n) same =
    sum_by-cons (λ k. cond {A = ℕ} (p k) 1 0) from (range_with_len (from + 1) n)
    ∙ ap (λ t. cond {A = ℕ} t 1 0 + count_by p (range_with_len (from + 1) n)) (same from (omega arith) (omega arith))
    ∙ ap (λ m. cond {A = ℕ} (q from) 1 0 + m) (count_same p q (from + 1) n (λ k low high. same k (omega (arith, low)) (omega (arith, high))))
    ∙ sym (sum_by-cons (λ k. cond {A = ℕ} (q k) 1 0) from (range_with_len (from + 1) n))

pub most_bound : (bound : ℕ) (xs : List ℕ) → ((x : ℕ) → Contains xs x → x ≤ bound) → most_of xs ≤ bound
most_bound bound [] all = omega arith
most_bound bound (y ∷ xs) all =
    let rest = most_bound bound xs (λ x c. all x (contains_behind y xs x c)) in
    omega (arith, rest, all y (contains_front y xs))

pub most_above : (xs : List ℕ) (x : ℕ) → Contains xs x → x ≤ most_of xs
most_above [] x c = absurd (contains_none x c)
most_above (y ∷ xs) x c = elim (front_or_behind y xs x c) [
  | inl e ↦ omega (arith, e)
  | inr rest ↦ (let most = most_above xs x rest in omega (arith, most))
]

-- ---- the cycles of an action

module _ (goes : ℕ → Option Turn) (processor n : ℕ) (st its : List Segment) (tiles : Tiles goes processor n st) (agent number : ℕ)
    (own : (s : Segment) → Contains its s → Contains st s × (s.agent ≡ agent) × (s.number ≡ number)) (all : (s : Segment) → Contains st s → s.agent ≡ agent → s.number ≡ number → Contains its s) where
  of_turn : (turn : Turn) → turn.agent ≡ agent → turn.number ≡ number → is_of agent number (Some turn) ≡ true
  of_turn turn a b = rw (eq-eqb turn.agent agent a, eq-eqb turn.number number b) refl

  turn_cases : (turn : Option Turn) → is_of agent number turn ≡ true → (t : Turn) × (turn ≡ Some t) × (t.agent ≡ agent) × (t.number ≡ number)
  turn_cases None e = absurd cc
  turn_cases (Some t) e = (let both = and_parts (t.agent == agent) (t.number == number) e in (t, refl, eqb-true t.agent agent both.0, eqb-true t.number number both.1))

  -- A stretch of the action has cycles that go to it.
  pub goes_to : (s : Segment) (c : ℕ) → Contains its s → s.first ≤ c → c < s.past → is_of agent number (goes c) ≡ true
  goes_to s c there low high =
      let (in_st, a, b) = own s there in
      let (m, few, tile) = tile_of goes processor n st s tiles in_st in
      ap (is_of agent number) (tile.own c low high) ∙ of_turn (turn_in s) a b

  -- And each of these cycles is one of a stretch.
  pub stretch_of : (c : ℕ) → c < n → is_of agent number (goes c) ≡ true → (s : Segment) × Contains its s × (s.first ≤ c) × (c < s.past)
  stretch_of c less is =
      let (t, goes_t, a, b) = turn_cases (goes c) is in
      let (s, there, low, high) = covered goes processor n st c t tiles less goes_t in
      let (m, few, tile) = tile_of goes processor n st s tiles there in
      let same : t ≡ turn_in s = same_Some t (turn_in s) (sym goes_t ∙ tile.own c low high) in
      (s, all s there (ap (λ (x : Turn). x.agent) (sym same) ∙ a) (ap (λ (x : Turn). x.number) (sym same) ∙ b), low, high)

  pub tile_within : (s : Segment) → Contains its s → s.past ≤ n
  tile_within s there = (let (m, few, tile) = tile_of goes processor n st s tiles (own s there).0 in omega (arith, few, tile.within))

  has_is : (c : ℕ) → c < n → list_any (has_cycle c) its ≡ is_of agent number (goes c)
  has_is c less = elim (cases_Bool (is_of agent number (goes c))) [
    | inl t ↦ (
        let (s, there, low, high) = stretch_of c less t in
        any_of (has_cycle c) its s there (and_from (nat_le s.first c) (nat_lt c s.past) (le-leb s.first c low) (lt-ltb c s.past high)) ∙ sym t)
    | inr f ↦
        any_none (has_cycle c) its (λ s there. not_true (has_cycle c s) (λ (has : has_cycle c s ≡ true).
        let both = and_parts (nat_le s.first c) (nat_lt c s.past) has in
        differ (sym (goes_to s c there (leb-true s.first c both.0) (ltb-true c s.past both.1)) ∙ f)))
        ∙ sym f
  ]

  pub cycles_are : cycles_in its ≡ count_by (λ c. is_of agent number (goes c)) (range_with_len 0 n)
  cycles_are =
      let pasts : List ℕ = map (λ (s : Segment). s.past) its in
      let bound = most_bound n pasts (λ x c. let (s, there, same) = map_contains (λ (s : Segment). s.past) its x c in subst (λ y. y ≤ n) same (tile_within s there)) in
      sym (count_longer (λ c. list_any (has_cycle c) its) (most_of pasts) n bound (λ c high less.
      any_none (has_cycle c) its (λ s there. not_true (has_cycle c s) (λ (has : has_cycle c s ≡ true).
      let both = and_parts (nat_le s.first c) (nat_lt c s.past) has in
      let low = ltb-true c s.past both.1 in
      let most = most_above pasts s.past (contains_map (λ (t : Segment). t.past) its s there) in
      omega (arith, low, most, high)))))
      ∙ count_same (λ c. list_any (has_cycle c) its) (λ c. is_of agent number (goes c)) 0 n (λ c low less. has_is c (omega (arith, less)))
