-- The numbers of places in order.
use Rattle.std.proofs.Common.{◌≡◌, ℕ, ◌<◌, true, false, ◌==◌, Decides, List, length, get_or, sym, ap, subst, ◌∙◌, inl, inr, arith}
use Rattle.std.specs.List.{AllPairs, Contains}
use Rattle.std.proofs.lemmas.Bool.{cases_order}
use Rattle.std.proofs.lemmas.Bool.Decides.{Decides-eqb, Decides-and}
use Rattle.std.proofs.lemmas.List.{get_or_default}
use Rattle.std.proofs.lemmas.List.Sums.{position_or_len_is}
use Rattle.psy_lists.proofs.lemmas.Tests.{not_true}
use Rattle.psy_graph.specs.declared.place.Place.{Place}
use Rattle.psy_graph.specs.Places.{Before, IsSought}
use Rattle.psy_graph.specs.Drawn.{is_place, number_of, place_of}
use Rattle.psy_graph.proofs.Rooms.{same_place, before_self, before_chain}

is_place_decides : (p q : Place) → Decides (is_place p q) ((q.point ≡ p.point) × (q.phase ≡ p.phase))
is_place_decides p q = Decides-and (q.point == p.point) (q.phase == p.phase) (Decides-eqb q.point p.point) (Decides-eqb q.phase p.phase)

place_is : (p q : Place) → q ≡ p → is_place p q ≡ true
place_is p q e = (is_place_decides p q).1 (ap (λ r. r.point) e, ap (λ r. r.phase) e)

place_differs : (p q : Place) → Before q p → is_place p q ≡ false
place_differs p q b = not_true (is_place p q) (λ is. (let e = (is_place_decides p q).0 is in before_self p (subst (λ r. Before r p) (same_place q p e.0 e.1) b)))

-- The number of a place is that at which it stands.
pub number_at : (places : List Place) (p : Place) (i : ℕ) → AllPairs Before places → i < length places → get_or places i p ≡ p → number_of places p ≡ i
number_at places p i rise l e =
    position_or_len_is (is_place p) places i p (omega (arith, l))
    (λ k ki. place_differs p (get_or places k p) (subst (λ q. Before (get_or places k p) q) e (rise k i p ki l)))
    (λ _. place_is p (get_or places i p) e)

pub number_is : (places : List Place) (p : Place) → AllPairs Before places → Contains places p → (number_of places p < length places) × (get_or places (number_of places p) p ≡ p)
number_is places p rise c =
    let e : number_of places p ≡ c.0 = number_at places p c.0 rise c.1 c.2 in
    (subst (λ n. n < length places) (sym e) c.1, subst (λ n. get_or places n p ≡ p) (sym e) c.2)

-- Numbers rise with their places.
pub number_rises : (places : List Place) (a b : Place) → AllPairs Before places → Contains places a → Contains places b → Before a b → number_of places a < number_of places b
number_rises places a b rise ca cb ab =
    let m = number_of places a in let n = number_of places b in
    let ma = number_is places a rise ca in let nb = number_is places b rise cb in
    let at_b : get_or places n a ≡ b = get_or_default places n a b nb.0 ∙ nb.1 in
    elim (cases_order m n) [
      | inl e ↦ absurd (before_self b (subst (λ q. Before q b) (sym ma.1 ∙ ap (λ k. get_or places k a) e ∙ at_b) ab))
      | inr h ↦ elim h [
        | inl l ↦ l
        | inr l ↦ absurd (before_self a (before_chain a b a ab (subst (λ q. Before q a) at_b (subst (λ q. Before (get_or places n a) q) ma.1 (rise n m a l ma.0)))))
      ]
    ]

-- Where a place is among others, the search ends at it.
pub sought_at : (places : List Place) (p : Place) (at : ℕ) → AllPairs Before places → IsSought places p at → Contains places p → at ≡ number_of places p
sought_at places p at rise sought c =
    let e : number_of places p ≡ c.0 = number_at places p c.0 rise c.1 c.2 in
    elim (cases_order at c.0) [
      | inl same ↦ same ∙ sym e
      | inr h ↦ elim h [
        | inl l ↦ absurd (sought.above at p (omega arith) (omega (arith, l, c.1)) (subst (λ q. Before (get_or places at p) q) c.2 (rise at c.0 p l c.1)))
        | inr l ↦ absurd (before_self p (subst (λ q. Before q p) c.2 (sought.below c.0 p l)))
      ]
    ]

pub place_there : (places : List Place) (p : Place) → AllPairs Before places → Contains places p → place_of places (number_of places p) ≡ p
place_there places p rise c =
    let is = number_is places p rise c in get_or_default places (number_of places p) (record { point = 0; phase = 0 }) p is.0 ∙ is.1
