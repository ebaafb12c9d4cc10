-- The messages of a queue that become visible at a date: they stand one behind the other, behind those that were visible before.
use Rattle.std.proofs.Common.{◌≡◌, ℕ, zero, suc, ◌+◌, ◌<◌, ◌≤◌, ◌==◌, Bool, true, false, not, nat_le, nat_lt, List, [], ◌∷◌, ◌++◌, filter, length, get_or, slice_get, Some, refl, sym, ap, subst, ◌∙◌, inl, inr, arith}
use Rattle.std.specs.List.{All}
use Rattle.std.proofs.lemmas.Bool.{cases_order}
use Rattle.std.proofs.lemmas.Bool.Decides.{nat_tests}
use Rattle.std.proofs.lemmas.List.Elements.{All-head, All-tail}
use Rattle.std.proofs.lemmas.List.Filters.{length-filter_both}
use Rattle.psy_base.specs.declared.message.Message.{Message}
use Rattle.psy_queue.proofs.lemmas.Orders.{visible_no_earlier, in_order_tail}
use Rattle.psy_lists.proofs.lemmas.Places.{there as some_at, in_front, mapped}
use Rattle.psy_queue.specs.Order.{AreInOrder, message_values}

-- ---- lists

behind_front : {X : Type 0} (xs ys : List X) (i k : ℕ) (y : X) → i ≡ length xs + k → slice_get ys k ≡ Some y → slice_get (xs ++ ys) i ≡ Some y
behind_front [] ys i k y e at = subst (λ n. slice_get ys n ≡ Some y) (omega (arith, e)) at
behind_front (x ∷ xs) ys zero k y e at = absurd (omega (arith, e))
behind_front (x ∷ xs) ys (suc i) k y e at = behind_front xs ys i k y (omega (arith, e)) at

none_pass : {X : Type 0} (p : X → Bool) (xs : List X) → All (λ x. p x ≡ false) xs → filter p xs ≡ []
none_pass p [] none = refl
none_pass p (x ∷ xs) none = (let here = All-head (λ y. p y ≡ false) x xs none in rw here (none_pass p xs (All-tail (λ y. p y ≡ false) x xs none)))

pub same_tests : {X : Type 0} (p q : X → Bool) (xs : List X) → ((x : X) → p x ≡ q x) → filter p xs ≡ filter q xs
same_tests p q [] same = refl
same_tests p q (x ∷ xs) same = rw (same x, same_tests p q xs same) refl

-- ---- messages in order

later_than : (n : Message) (ns : List Message) → AreInOrder (n ∷ ns) → All (λ m. n.visible ≤ m.visible) ns
later_than n ns rise k d small = visible_no_earlier n (get_or ns k d) (rise 0 (suc k) d (omega arith) (omega (arith, small)))

module _ (date : ℕ) where
  abbrev earlier : Message → Bool
  earlier m = nat_lt m.visible date

  abbrev here : Message → Bool
  here m = m.visible == date

  abbrev later : Message → Bool
  later m = nat_lt date m.visible

  abbrev seen : Message → Bool
  seen m = nat_le m.visible date

  abbrev Parted : List Message → Type 0
  Parted ms = ms ≡ filter earlier ms ++ (filter here ms ++ filter later ms)

  part : (m : Message) (ms : List Message) → All (λ n. m.visible ≤ n.visible) ms → Parted ms → Parted (m ∷ ms)
  part m ms rise rest = elim (cases_order m.visible date) [
    | inl same ↦ (
        let none : filter earlier ms ≡ [] = none_pass earlier ms (λ k d l. (let le : m.visible ≤ _ = rise k d l in grind (arith, nat_tests))) in
        let all : ms ≡ filter here ms ++ filter later ms = rest ∙ ap (λ xs. xs ++ (filter here ms ++ filter later ms)) none in
        let a : earlier m ≡ false = grind (arith, nat_tests) in
        let b : here m ≡ true = grind (arith, nat_tests) in
        let c : later m ≡ false = grind (arith, nat_tests) in
        rw (a, b, c, none) (ap (λ xs. m ∷ xs) all))
    | inr other ↦ elim other [
      | inl less ↦ (
          let a : earlier m ≡ true = grind (arith, nat_tests) in
          let b : here m ≡ false = grind (arith, nat_tests) in
          let c : later m ≡ false = grind (arith, nat_tests) in
          rw (a, b, c) (ap (λ xs. m ∷ xs) rest))
      | inr more ↦ (
          let none : filter earlier ms ≡ [] = none_pass earlier ms (λ k d l. (let le : m.visible ≤ _ = rise k d l in grind (arith, nat_tests))) in
          let none_here : filter here ms ≡ [] = none_pass here ms (λ k d l. (let le : m.visible ≤ _ = rise k d l in grind (arith, nat_tests))) in
          let all : ms ≡ filter later ms = rest ∙ ap (λ xs. xs ++ (filter here ms ++ filter later ms)) none ∙ ap (λ xs. xs ++ filter later ms) none_here in
          let a : earlier m ≡ false = grind (arith, nat_tests) in
          let b : here m ≡ false = grind (arith, nat_tests) in
          let c : later m ≡ true = grind (arith, nat_tests) in
          rw (a, b, c, none, none_here) (ap (λ xs. m ∷ xs) all))
    ]
  ]

  -- Messages in order are those of earlier dates, those of this one and those of later ones.
  parted : (ms : List Message) → AreInOrder ms → Parted ms
  parted [] rise = refl
  parted (m ∷ ms) rise = part m ms (later_than m ms rise) (parted ms (in_order_tail m ms rise))

  counted_by : (m : Message) (ms : List Message) → length (filter seen ms) ≡ length (filter earlier ms) + length (filter here ms) → length (filter seen (m ∷ ms)) ≡ length (filter earlier (m ∷ ms)) + length (filter here (m ∷ ms))
  counted_by m ms rest = elim (cases_order m.visible date) [
    | inl same ↦ (
        let a : earlier m ≡ false = grind (arith, nat_tests) in
        let b : here m ≡ true = grind (arith, nat_tests) in
        let c : seen m ≡ true = grind (arith, nat_tests) in
        rw (a, b, c) (omega (arith, rest)))
    | inr other ↦ elim other [
      | inl less ↦ (
          let a : earlier m ≡ true = grind (arith, nat_tests) in
          let b : here m ≡ false = grind (arith, nat_tests) in
          let c : seen m ≡ true = grind (arith, nat_tests) in
          rw (a, b, c) (omega (arith, rest)))
      | inr more ↦ (
          let a : earlier m ≡ false = grind (arith, nat_tests) in
          let b : here m ≡ false = grind (arith, nat_tests) in
          let c : seen m ≡ false = grind (arith, nat_tests) in
          rw (a, b, c) rest)
    ]
  ]

  pub seen_counted : (ms : List Message) → length (filter seen ms) ≡ length (filter earlier ms) + length (filter here ms)
  seen_counted [] = refl
  seen_counted (m ∷ ms) = counted_by m ms (seen_counted ms)

  pub seen_few : (ms : List Message) → length (filter seen ms) ≤ length ms
  seen_few ms = omega (arith, length-filter_both seen (λ m. not (seen m)) (λ m. refl) ms)

  -- Nothing is earlier than date 0.
  pub none_earlier : (ms : List Message) → date ≡ 0 → filter earlier ms ≡ []
  none_earlier ms first = none_pass earlier ms (λ k d l. grind (arith, nat_tests))

  -- The message behind so many of the date stands as many places behind those of earlier dates.
  pub shown_at : (ms : List Message) (shown at : ℕ) → AreInOrder ms → at ≡ length (filter earlier ms) + shown → at < length (filter seen ms)
      → (m : Message) × (slice_get (filter here ms) shown ≡ Some m) × (slice_get (message_values ms) at ≡ Some m.value)
  shown_at ms shown at rise is small =
      let few : shown < length (filter here ms) = omega (arith, is, small, seen_counted ms) in
      let found = some_at (filter here ms) shown few in
      let among : slice_get (filter here ms ++ filter later ms) shown ≡ Some found.0 = in_front (filter here ms) (filter later ms) shown found.0 found.1 in
      let there : slice_get ms at ≡ Some found.0 =
      subst (λ xs. slice_get xs at ≡ Some found.0) (sym (parted ms rise)) (behind_front (filter earlier ms) (filter here ms ++ filter later ms) at shown found.0 is among) in
      (found.0, found.1, mapped (λ (m : Message). m.value) ms at found.0 there)
