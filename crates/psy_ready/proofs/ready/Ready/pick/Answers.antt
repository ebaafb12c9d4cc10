-- What is left of the proof of `ready::Ready::pick`.
use Rattle.std.proofs.Common.{◌≡◌, ℕ, ◌<◌, ◌==◌, Bool, false, List, length, Option, get_or, sym, subst, inl, inr, arith}
use Rattle.std.specs.List.{All, Contains}
use Rattle.std.proofs.lemmas.Bool.Decides.{nat_tests}
use Rattle.std.proofs.lemmas.List.{get_or_default}
use Rattle.psy_ready.specs.declared.ready.Pending.{Pending}
use Rattle.psy_ready.specs.declared.ready.Ready.TheInside.{Inside}
use Rattle.psy_ready.specs.Standing.{AreSorted, IsFirstPlace, IsReady}
use Rattle.psy_ready.proofs.Picks.{pick_front, pick_first, each_listed}
use Rattle.psy_ready.proofs.ready.Ready.pick.Goals as goal
use Rattle.psy_ready.proofs.ready.Ready.pick.Goals.{then-sorted-eq1-via-then-sorted-eq1, then-sorted-eq1-via-else-sorted-eq1+then-first-sorted}

abbrev nothing : Pending
nothing = record { agent = 0; deadline = 0 }

not_empty : (n : ℕ) (empty : Bool) → empty ≡ (n == 0) → empty ≡ false → 0 < n
not_empty n empty is other = grind (arith, nat_tests)

-- What stands in the fields, as the model and the slice have it
sorted_so : (r : Inside) (deadlines : List (Option ℕ)) (sorted : List Pending) → IsReady r → deadlines ≡ r.deadlines.items → sorted ≡ r.sorted.items → AreSorted deadlines sorted
sorted_so r deadlines sorted is same listed = subst (AreSorted deadlines) (sym listed) (subst (λ ds. AreSorted ds r.sorted.items) (sym same) is.sorted)

pub returns-then-sorted-eq1 : goal.returns-then-sorted-eq1
returns-then-sorted-eq1 c =
    let sorted : List Pending = c.as_slice-sorted.result.now in
    pick_front c.args.self.now sorted c.args.order.now nothing (sorted_so c.self.inside c.args.self.now sorted c.self.invariant (sym c.self.view_is) c.as_slice-sorted.ensures.value) c.requires
    (not_empty (length sorted) c.is_empty.result c.is_empty.ensures c.if-is_empty.false) (elim c.then-sorted-eq1.branch [
      | then-sorted-eq1-via-then-sorted-eq1 w ↦ inl w.if-sorted-eq1.true
      | then-sorted-eq1-via-else-sorted-eq1+then-first-sorted w ↦ inr w.if-first-sorted.true
    ])

pub first_place-requires-clause-listed : goal.first_place-requires-clause-listed
first_place-requires-clause-listed c =
    let sorted : List Pending = c.as_slice-sorted.result.now in
    let f : Pending = get_or sorted 0 nothing in
    let some : 0 < length sorted = not_empty (length sorted) c.is_empty.result c.is_empty.ensures c.if-is_empty.false in
    subst (All (λ (p : Pending). Contains c.args.order.now p.agent)) (sym c.split_at.ensures.front) (each_listed c.args.self.now sorted
    (sorted_so c.self.inside c.args.self.now sorted c.self.invariant (sym c.self.view_is) c.as_slice-sorted.ensures.value) c.args.order.now c.requires f some (λ d. get_or_default sorted 0 d nothing some)
    c.front_len.result c.front_len.ensures.point c.front_len.ensures.within)

pub returns : goal.returns
returns c =
    let sorted : List Pending = c.as_slice-sorted.result.now in
    let f : Pending = get_or sorted 0 nothing in
    let some : 0 < length sorted = not_empty (length sorted) c.is_empty.result c.is_empty.ensures c.if-is_empty.false in
    pick_first c.args.self.now sorted (sorted_so c.self.inside c.args.self.now sorted c.self.invariant (sym c.self.view_is) c.as_slice-sorted.ensures.value) c.args.order.now c.requires f some
    (λ d. get_or_default sorted 0 d nothing some) c.front_len.result c.front_len.ensures.point c.front_len.ensures.within c.first_place.result
    (subst (λ (due : List Pending). IsFirstPlace due c.args.order.now c.first_place.result) c.split_at.ensures.front c.first_place.ensures.place)
