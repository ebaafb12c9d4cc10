-- A pass over the places, one after the other.
use Rattle.std.proofs.Common.{◌≡◌, ℕ, ◌+◌, ◌<◌, ◌≤◌, Bool, true, false, ◌||◌, List, length, get_or, refl, sym, ap, subst, ◌∙◌, inl, inr, arith, get_or-set_other, get_or-set_same}
use Rattle.std.specs.Prelude.{slice_set}
use Rattle.std.specs.List.{Contains}
use Rattle.std.proofs.lemmas.Bool.{cases_lt, false≢true}
use Rattle.std.proofs.lemmas.List.{get_or_default}
use Rattle.std.proofs.lemmas.List.Elements.{Contains-get_or}
use Rattle.std.proofs.lemmas.List.Sorted.{Contains-permutation, IsPermutation-sym}
use Rattle.std.specs.List.Sorted.{IsPermutation}
use Rattle.psy_lists.proofs.lemmas.Tests.{or_right}
use Rattle.psy_lists.proofs.lemmas.Places.{there}
use Rattle.psy_code.specs.declared.instr.Instr.{Instr}
use Rattle.psy_meaning.specs.CodeWays.{later}
use Rattle.psy_flow.specs.declared.quests.Quest.{Quest}
use Rattle.psy_flow.specs.Walks.{ArePassed, MayFollow, StaysIn}
use Rattle.psy_flow.specs.Worths.{AreFound, AreSettled, AreSmall, best_at, room_of, worth_at}
use Rattle.psy_flow.proofs.WorthCells.{IsRaised, best_small, raised_found, raised_small, same_or_not}

-- The cells of a row when so many places were visited.
pub record IsPassing (quest : Quest) (instrs : List Instr) (places : List ℕ) (most : ℕ) (before row : List ℕ) (rose : Bool) (visited : ℕ) : Type 0 where
  pub count : length row ≡ length instrs
  pub found : AreFound instrs quest places row
  pub small : AreSmall most places row
  pub same : rose ≡ false → row ≡ before
  pub room : rose ≡ true → room_of most row < room_of most before
  pub settled : rose ≡ false → (k : ℕ) → k < visited → worth_at quest instrs row (get_or places k 0) ≤ get_or row (get_or places k 0) 0

or_left : (a b : Bool) → (a || b) ≡ false → a ≡ false
or_left true b h = h
or_left false b h = refl

module _ (quest : Quest) (instrs : List Instr) (from : ℕ) (places : List ℕ) (most : ℕ) (are : ArePassed instrs from places) where
  may_follow : (place : ℕ) → Contains places place → MayFollow instrs places place
  may_follow place has next i at on = (are.each next).1 (later place next i ((are.each place).0 has) at on)

  pub place_inside : StaysIn instrs from → (k : ℕ) → k < length places → get_or places k 0 < length instrs
  place_inside inside k less = inside (get_or places k 0) ((are.each (get_or places k 0)).0 (Contains-get_or places k 0 less))

  pub room_there : StaysIn instrs from → (row : List ℕ) → AreSmall most places row → (k : ℕ) → k < length places → best_at instrs row (get_or places k 0) ≤ most + 1
  room_there inside row small k less =
      let place = get_or places k 0 in
      let (i, at) = there instrs place (place_inside inside k less) in
      best_small instrs quest places most row place i (may_follow place (Contains-get_or places k 0 less)) at small

  module _ (before row after : List ℕ) (rose now : Bool) (k : ℕ) (inside : StaysIn instrs from) (less : k < length places) (kept : IsPassing quest instrs places most before row rose k)
      (raised : IsRaised most row after (get_or places k 0) (worth_at quest instrs row (get_or places k 0)) now) where
    pub visited_found : AreFound instrs quest places after
    visited_found =
        let place = get_or places k 0 in
        let (i, at) = there instrs place (place_inside inside k less) in
        raised_found instrs quest places row kept.found place i (may_follow place (Contains-get_or places k 0 less)) at most after now raised

    room_by : (a b : Bool) → rose ≡ a → now ≡ b → (a || b) ≡ true → room_of most after < room_of most before
    room_by true true p q h = omega (arith, kept.room p, raised.room q (kept.small (get_or places k 0) (Contains-get_or places k 0 less)))
    room_by true false p q h = omega (arith, kept.room p, ap (room_of most) (raised.kept q).0)
    room_by false true p q h = omega (arith, ap (room_of most) (kept.same p), raised.room q (kept.small (get_or places k 0) (Contains-get_or places k 0 less)))
    room_by false false p q h = absurd (false≢true h)

    settled_by : rose ≡ false → now ≡ false → (j : ℕ) → j < k + 1 → worth_at quest instrs after (get_or places j 0) ≤ get_or after (get_or places j 0) 0
    settled_by p q j low =
        let (same, settled) = raised.kept q in
        subst (λ r. worth_at quest instrs r (get_or places j 0) ≤ get_or r (get_or places j 0) 0) (sym same) (elim (cases_lt j k) [
          | inl under ↦ kept.settled p j under
          | inr not ↦ (let here : k ≡ j = omega (arith, not, low) in subst (λ m. worth_at quest instrs row (get_or places m 0) ≤ get_or row (get_or places m 0) 0) here settled)
        ])

    pub passing_more : get_or after (get_or places k 0) 0 ≤ most + 1 → IsPassing quest instrs places most before after (rose || now) (k + 1)
    passing_more low = record {
      count = raised.count ∙ kept.count;
      found = visited_found;
      small = raised_small instrs quest places most row after (get_or places k 0) (worth_at quest instrs row (get_or places k 0)) now raised kept.small low;
      same = λ h. (raised.kept (or_right rose now h)).0 ∙ kept.same (or_left rose now h);
      room = λ h. room_by rose now refl refl h;
      settled = λ h. settled_by (or_left rose now h) (or_right rose now h);
    }

pub passing_none : (quest : Quest) (instrs : List Instr) (places : List ℕ) (most : ℕ) (row : List ℕ) → length row ≡ length instrs → AreFound instrs quest places row → AreSmall most places row → IsPassing quest instrs places most row row false 0
passing_none quest instrs places most row count found small = record {
  count = count;
  found = found;
  small = small;
  same = λ e. refl;
  room = λ e. absurd (false≢true e);
  settled = λ e k less. absurd (omega (arith, less));
}

pub all_settled : (quest : Quest) (instrs : List Instr) (places row : List ℕ) (visited : ℕ) → length places ≤ visited → ((k : ℕ) → k < visited → worth_at quest instrs row (get_or places k 0) ≤ get_or row (get_or places k 0) 0) → AreSettled quest instrs places row
all_settled quest instrs places row visited all settled place (k, less, is) =
    let here : get_or places k 0 ≡ place = get_or_default places k 0 place less ∙ is in
    subst (λ p. worth_at quest instrs row p ≤ get_or row p 0) here (settled k (omega (arith, less, all)))

-- ---- emptied cells

pub emptied_more : (row places : List ℕ) (k : ℕ) → get_or places k 0 < length row → ((j : ℕ) → j < k → get_or row (get_or places j 0) 0 ≡ 0) → (j : ℕ) → j < k + 1 → get_or (slice_set row (get_or places k 0) 0) (get_or places j 0) 0 ≡ 0
emptied_more row places k inside empty j low = elim (same_or_not (get_or places j 0) (get_or places k 0)) [
  | inl same ↦ ap (λ p. get_or (slice_set row (get_or places k 0) 0) p 0) same ∙ get_or-set_same row (get_or places k 0) 0 0 inside
  | inr other ↦ elim (cases_lt j k) [
    | inl under ↦ get_or-set_other row (get_or places k 0) (get_or places j 0) 0 0 other ∙ empty j under
    | inr not ↦ (let here : j ≡ k = omega (arith, not, low) in absurd (other (ap (λ i. get_or places i 0) here)))
  ]
]

pub all_empty : (row places : List ℕ) (visited : ℕ) → length places ≤ visited → ((j : ℕ) → j < visited → get_or row (get_or places j 0) 0 ≡ 0) → (place : ℕ) → Contains places place → get_or row place 0 ≡ 0
all_empty row places visited all empty place (k, less, is) =
    let here : get_or places k 0 ≡ place = get_or_default places k 0 place less ∙ is in
    subst (λ p. get_or row p 0 ≡ 0) here (empty k (omega (arith, less, all)))

-- Empty cells stand for no way.
pub empty_found : (instrs : List Instr) (quest : Quest) (places row : List ℕ) → ((place : ℕ) → Contains places place → get_or row place 0 ≡ 0) → AreFound instrs quest places row
empty_found instrs quest places row empty = record { each = λ place n has e. absurd (omega (arith, e, empty place has)) }

pub empty_small : (most : ℕ) (places row : List ℕ) → ((place : ℕ) → Contains places place → get_or row place 0 ≡ 0) → AreSmall most places row
empty_small most places row empty place has = omega (arith, empty place has)

-- ---- in another order

pub passed_in_order : (instrs : List Instr) (from : ℕ) (places others : List ℕ) → ArePassed instrs from places → IsPermutation places others → ArePassed instrs from others
passed_in_order instrs from places others are same = record {
  each = λ place. (
    (λ c. (are.each place).0 (Contains-permutation others places place (IsPermutation-sym places others same) c)),
    (λ passed. Contains-permutation places others place same ((are.each place).1 passed)),
  );
}
