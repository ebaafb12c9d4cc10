-- Between edges: of stretches, of the cycles at which actions wait, and of orders.
use Rattle.std.proofs.Common.{◌≡◌, ◌∙◌, refl, ap, subst, ℕ, ◌+◌, ◌<◌, ◌≤◌, cond, ◌&&◌, ◌||◌, List, [], ◌∷◌, nat_le, nat_lt, arith, length, get_or, take, filter}
use Rattle.std.specs.List.{All, list_any}
use Rattle.std.proofs.lemmas.List.Elements.{All-head, All-more, All-tail, All-weaker}
use Rattle.psy_history.specs.Scripts.{in_force}
use Rattle.psy_history.specs.declared.told.Order.{Order}
use Rattle.psy_audit.specs.declared.said.Segment.{Segment}
use Rattle.psy_audit.specs.declared.waits.Wait.{Wait}
use Rattle.psy_audit.specs.Apart.{IsSteady}
use Rattle.psy_audit.specs.Courses.{has_cycle, is_unfinished}
use Rattle.psy_audit.specs.Waits.{is_waiting}
use Rattle.psy_audit.proofs.Walks.{le_steady, lt_steady}

-- A number doesn't come between these: it isn't behind the one and before the other.
abbrev pub Apart : ℕ → ℕ → ℕ → Type 0
Apart from to m = from < m → to ≤ m

-- A stretch neither begins nor is over between.
pub record IsApart (from to : ℕ) (s : Segment) : Type 0 where
  pub first : Apart from to s.first
  pub past : Apart from to s.past

-- An order doesn't come into force between.
abbrev pub ComesApart : ℕ → ℕ → Order → Type 0
ComesApart from to o = Apart from to o.cycle

-- ---- one more

module _ (from to next : ℕ) (less : next ≤ to) where
  nearer : (m : ℕ) → Apart from to m → Apart from next m
  nearer m apart = λ behind. (let at = apart behind in omega (arith, at, less))

  pub apart_more : (its : List Segment) (i : ℕ) (d : Segment) → i < length its → All (IsApart from to) (take i its)
      → (from < (get_or its i d).past → next ≤ (get_or its i d).past) → (from < (get_or its i d).first → next ≤ (get_or its i d).first) → All (IsApart from next) (take (i + 1) its)
  apart_more its i d l those past first =
      All-more (IsApart from next) its i d l
      (All-weaker (IsApart from to) (IsApart from next) (λ x a. record { first = nearer x.first a.first; past = nearer x.past a.past }) (take i its) those)
      (record { first = first; past = past })

  pub waits_more : (its : List Wait) (i : ℕ) (d : Wait) → i < length its → All (IsSteady from to) (take i its)
      → (from < (get_or its i d).past → next ≤ (get_or its i d).past) → (from < (get_or its i d).from → next ≤ (get_or its i d).from) → All (IsSteady from next) (take (i + 1) its)
  waits_more its i d l those past first =
      All-more (IsSteady from next) its i d l
      (All-weaker (IsSteady from to) (IsSteady from next) (λ x a. record { first = nearer x.from a.first; past = nearer x.past a.past }) (take i its) those)
      (record { first = first; past = past })

  pub comes_more : (its : List Order) (i : ℕ) (o : Order) → i < length its → o ≡ get_or its i o → All (ComesApart from to) (take i its) → ComesApart from next o
      → All (ComesApart from next) (take (i + 1) its)
  comes_more its i o l is those this =
      All-more (ComesApart from next) its i o l
      (All-weaker (ComesApart from to) (ComesApart from next) (λ x a. nearer x.cycle a) (take i its) those)
      (subst (ComesApart from next) is this)

-- ---- so all goes on as it began

module _ (from to c : ℕ) (low : from ≤ c) (high : c < to) where
  pub cycles_steady : (its : List Segment) → All (IsApart from to) its → list_any (has_cycle c) its ≡ list_any (has_cycle from) its
  cycles_steady [] all = refl
  cycles_steady (s ∷ its) all =
      let this : IsApart from to s = All-head (IsApart from to) s its all in
      let one : nat_le s.first c ≡ nat_le s.first from = le_steady s.first from c to low high this.first in
      let two : nat_lt c s.past ≡ nat_lt from s.past = lt_steady s.past from c to low high this.past in
      let rest = cycles_steady its (All-tail (IsApart from to) s its all) in
      ap (λ b. b && nat_lt c s.past || list_any (has_cycle c) its) one
      ∙ ap (λ b. nat_le s.first from && b || list_any (has_cycle c) its) two
      ∙ ap (λ b. nat_le s.first from && nat_lt from s.past || b) rest

  waiting_steady : (w : Wait) → IsSteady from to w → is_waiting c w ≡ is_waiting from w
  waiting_steady w this =
      let one : nat_le w.from c ≡ nat_le w.from from = le_steady w.from from c to low high this.first in
      let two : nat_lt c w.past ≡ nat_lt from w.past = lt_steady w.past from c to low high this.past in
      ap (λ b. b && (is_unfinished w.act.ending || nat_lt c w.past)) one
      ∙ ap (λ b. nat_le w.from from && (is_unfinished w.act.ending || b)) two

  pub waits_steady : (its : List Wait) → All (IsSteady from to) its → filter (is_waiting c) its ≡ filter (is_waiting from) its
  waits_steady [] all = refl
  waits_steady (w ∷ its) all =
      let this : IsSteady from to w = All-head (IsSteady from to) w its all in
      let rest = waits_steady its (All-tail (IsSteady from to) w its all) in
      ap (λ b. cond b (w ∷ filter (is_waiting c) its) (filter (is_waiting c) its)) (waiting_steady w this)
      ∙ ap (λ xs. cond (is_waiting from w) (w ∷ xs) xs) rest

  pub order_steady : (its : List Order) (order : List ℕ) → All (ComesApart from to) its → in_force order its c ≡ in_force order its from
  order_steady [] order all = refl
  order_steady (o ∷ its) order all =
      let this : ComesApart from to o = All-head (ComesApart from to) o its all in
      let rest = order_steady its o.agents (All-tail (ComesApart from to) o its all) in
      ap (λ b. cond b (in_force o.agents its c) order) (le_steady o.cycle from c to low high this)
      ∙ ap (λ xs. cond (nat_le o.cycle from) xs order) rest

-- What is no later than one is no later than what that one is no later than.
pub sooner_still : (from mid next m : ℕ) → next ≤ mid → (from < m → mid ≤ m) → from < m → next ≤ m
sooner_still from mid next m less at behind = let most = at behind in omega (arith, less, most)
