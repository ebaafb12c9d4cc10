-- Messages in order that are visible by a date stand first.
use Rattle.std.proofs.Common.{◌≡◌, ℕ, zero, suc, ◌<◌, ◌≤◌, true, false, Bool, nat_le, List, [], ◌∷◌, filter, length, get_or, slice_get, Some, refl, ap, subst, inl, inr, arith}
use Rattle.std.specs.List.{All}
use Rattle.std.proofs.lemmas.Bool.Decides.{leb_tells}
use Rattle.std.proofs.lemmas.List.Elements.{All-head, All-tail}
use Rattle.std.proofs.lemmas.Option.{get_or_from_slice_get, slice_get_within}
use Rattle.psy_base.specs.declared.message.Message.{Message}
use Rattle.psy_queue.specs.Order.{AreInOrder}
use Rattle.psy_queue.proofs.lemmas.Orders.{in_order_tail, visible_rises}

none_pass : {X : Type 0} (p : X → Bool) (xs : List X) → All (λ x. p x ≡ false) xs → filter p xs ≡ []
none_pass p [] none = refl
none_pass p (x ∷ xs) none = (let here = All-head (λ y. p y ≡ false) x xs none in rw here (none_pass p xs (All-tail (λ y. p y ≡ false) x xs none)))

module _ (date : ℕ) where
  abbrev seen : Message → Bool
  seen m = nat_le m.visible date

  not_seen : (m : Message) → date < m.visible → seen m ≡ false
  not_seen m late = elim (leb_tells m.visible date) [
    | inl l ↦ absurd (omega (arith, l.1, late))
    | inr l ↦ l.0
  ]

  seen_next : (n : Message) (ns : List Message) (m : Message) → ((k : ℕ) → k < length (filter seen ns) → slice_get ns k ≡ Some m → m.visible ≤ date) → n.visible ≤ date → seen n ≡ true
      → (k : ℕ) → k < length (filter seen (n ∷ ns)) → slice_get (n ∷ ns) k ≡ Some m → m.visible ≤ date
  seen_next n ns m rest early is zero less at = (let same : n ≡ m = cc in subst (λ (x : Message). x.visible ≤ date) same early)
  seen_next n ns m rest early is (suc k) less at =
      let longer : length (filter seen (n ∷ ns)) ≡ suc (length (filter seen ns)) = rw is refl in
      rest k (omega (arith, less, longer)) at

  -- A message that stands before as many as are visible is one of them.
  pub seen_first : (ms : List Message) → AreInOrder ms → (m : Message) (k : ℕ) → k < length (filter seen ms) → slice_get ms k ≡ Some m → m.visible ≤ date
  seen_first [] rise m k less at = absurd (omega (arith, less))
  seen_first (n ∷ ns) rise m k less at = elim (leb_tells n.visible date) [
    | inl l ↦ seen_next n ns m (seen_first ns (in_order_tail n ns rise) m) l.1 l.0 k less at
    | inr l ↦ (
        let none : filter seen (n ∷ ns) ≡ [] = none_pass seen (n ∷ ns) (λ i e small. (let le : n.visible ≤ (get_or (n ∷ ns) i e).visible = visible_rises (n ∷ ns) rise 0 i e (omega arith) small in not_seen (get_or (n ∷ ns) i e) (omega (arith, le, l.1)))) in
        let empty : length (filter seen (n ∷ ns)) ≡ 0 = ap length none in
        absurd (omega (arith, empty, less)))
  ]

-- Behind a message of such a list none becomes visible earlier.
pub none_earlier : (ms : List Message) → AreInOrder ms → (place k : ℕ) (first m : Message) → place ≤ k → slice_get ms place ≡ Some first → slice_get ms k ≡ Some m → first.visible ≤ m.visible
none_earlier ms rise place k first m less at there =
    let small : k < length ms = slice_get_within ms k m there in
    let le : (get_or ms place m).visible ≤ (get_or ms k m).visible = visible_rises ms rise place k m less small in
    subst (λ x. x.visible ≤ m.visible) (get_or_from_slice_get ms place first m at) (subst (λ x. (get_or ms place m).visible ≤ x.visible) (get_or_from_slice_get ms k m m there) le)
