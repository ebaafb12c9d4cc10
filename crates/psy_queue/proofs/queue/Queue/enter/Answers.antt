-- What is left of the proof of `queue::Queue::enter`.
use Rattle.std.proofs.Common.{◌≡◌, ℕ, ◌+◌, ◌<◌, ◌≤◌, Bool, true, false, if◌then◌else◌, List, length, sym, ap, ◌∙◌, subst, is_ok, vec_len, arith}
use Rattle.std.specs.Prelude.{slice_get}
use Rattle.std.specs.List.{insert}
use Rattle.std.specs.List.Sorted.{IsPartitionPoint}
use Rattle.psy_base.specs.declared.message.Message.{Message}
use Rattle.psy_queue.specs.Expiring.{ExpiryRises}
use Rattle.psy_queue.specs.Order.{Queued, AreInOrder, comes_before, put_in_order}
use Rattle.psy_queue.specs.Standing.{queued}
use Rattle.psy_queue.proofs.Expiries.{rises_inserted}
use Rattle.psy_queue.proofs.lemmas.Orders.{insert_is, in_order_placed}
use Rattle.psy_queue.proofs.queue.Queue.enter.Goals as goal
use Rattle.psy_queue.proofs.queue.Queue.enter.Goals.{After-insert}

-- The queue as its fields have it
viewed : (c : After-insert) → c.args.self.now ≡ queued c.self.inside
viewed c = cc

roomy : (c : After-insert) → length c.self.inside.messages.items < c.self.inside.size
roomy c = subst (λ (q : Queued). length q.messages < q.size) (viewed c) c.requires

went : (c : After-insert) → is_ok c.insert.result ≡ true
went c =
    let long : length c.self.inside.messages.items < c.self.inside.size = roomy c in
    c.insert.ensures.succeeds (omega (arith, long, c.self.invariant.room, c.self.inside.messages.ok.0))

-- It went to its place
inserted : (c : After-insert) → c.insert.new.self.items ≡ insert c.self.inside.messages.items c.place_of-place.result c.args.message
inserted c = c.insert.ensures.items ∙ ap (λ (b : Bool). if b then insert c.self.inside.messages.items c.place_of-place.result c.args.message else c.self.inside.messages.items) (went c)

within_all : (c : After-insert) → c.place_of-place.result ≤ length c.self.inside.messages.items
within_all c = subst (λ (xs : List Message). c.place_of-place.result ≤ length xs) c.as_slice.ensures.value c.place_of-place.ensures.within

placed : (c : After-insert) → c.insert.new.self.items ≡ put_in_order c.args.message c.self.inside.messages.items
placed c =
    let m : Message = c.args.message in
    let ns : List Message = c.self.inside.messages.items in
    let k : ℕ = c.place_of-place.result in
    let same : c.as_slice.result.now ≡ ns = c.as_slice.ensures.value in
    let point : IsPartitionPoint (λ n. comes_before m n ≡ false) (λ n. comes_before m n ≡ true) ns k = subst (λ xs. IsPartitionPoint (λ n. comes_before m n ≡ false) (λ n. comes_before m n ≡ true) xs k) same c.place_of-place.ensures.point in
    inserted c ∙ insert_is m ns k (within_all c) point

pub invariant_of-self : goal.invariant_of-self
invariant_of-self c =
    let long : length c.self.inside.messages.items < c.self.inside.size = roomy c in
    let len : vec_len c.insert.new.self ≡ vec_len c.self.inside.messages + 1 = c.insert.ensures.len ∙ ap (λ (b : Bool). if b then vec_len c.self.inside.messages + 1 else vec_len c.self.inside.messages) (went c) in
    record {
      in_order = subst AreInOrder (sym (placed c)) (in_order_placed c.args.message c.self.inside.messages.items c.self.invariant.in_order);
      within = omega (arith, long, len, c.self.inside.messages.ok.0);
      room = omega (arith, c.insert.ensures.capacity, c.self.invariant.room);
      limit = c.self.invariant.limit;
      rising = λ known. (let ns : List Message = c.self.inside.messages.items in
          let same : c.as_slice-2.result.now ≡ ns = c.as_slice-2.ensures.value in
          subst ExpiryRises (sym (inserted c)) (rises_inserted c.args.message ns c.place_of-place.result (within_all c) (c.self.invariant.rising (c.rises_with-self-inside.ensures.rising known))
          (λ i other at is. c.rises_with-self-inside.ensures.before known i other at (ap (λ xs. slice_get xs i) same ∙ is))
          (λ other is. c.rises_with-self-inside.ensures.behind known other (ap (λ xs. slice_get xs c.place_of-place.result) same ∙ is))));
    }

pub returns : goal.returns
returns c =
    let m : Message = c.args.message in
    let holding : List Message → Queued = λ ms. record { size = c.self.inside.size; messages = ms } in
    ap holding (placed c) ∙ ap (λ (q : Queued). record { size = q.size; messages = put_in_order m q.messages }) (sym (viewed c))
