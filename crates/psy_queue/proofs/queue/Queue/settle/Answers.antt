-- What is left of the proof of `queue::Queue::settle`.
use Rattle.std.proofs.Common.{◌≡◌, ℕ, ◌≤◌, false, nat_lt, List, length, drop, sym, ap, ◌∙◌, subst, arith}
use Rattle.std.specs.List.{filter}
use Rattle.std.proofs.lemmas.List.Kept.{AllPairs-filter}
use Rattle.psy_base.specs.declared.message.Message.{Message}
use Rattle.psy_queue.specs.Expiring.{ExpiryRises}
use Rattle.psy_queue.specs.Order.{AreInOrder, comes_before}
use Rattle.psy_queue.proofs.Expiries.{rises_dropped}
use Rattle.psy_queue.proofs.lemmas.Orders.{fewer_settled, in_order_dropped}
use Rattle.psy_queue.proofs.queue.Queue.settle.Goals as goal

pub drop_expired-requires : goal.drop_expired-requires
drop_expired-requires c known = subst ExpiryRises (sym c.drop_front.ensures.items) (rises_dropped c.args.taken c.self.inside.messages.items (c.self.invariant.rising known))

pub invariant_of-self : goal.invariant_of-self
invariant_of-self c =
    let ns : List Message = c.self.inside.messages.items in
    let taken : ℕ = c.args.taken in
    let p = λ (m : Message). nat_lt c.args.date m.expiry in
    let is : c.drop_expired.new.messages.items ≡ filter p (drop taken ns) = c.drop_expired.ensures.items ∙ ap (filter p) c.drop_front.ensures.items in
    let shorter : length c.drop_expired.new.messages.items ≤ length ns = subst (λ (xs : List Message). length xs ≤ length ns) (sym is) (fewer_settled p taken ns) in
    record {
      in_order = subst AreInOrder (sym is) (AllPairs-filter (λ m n. comes_before n m ≡ false) p (drop taken ns) (in_order_dropped taken ns c.self.invariant.in_order));
      within = omega (arith, shorter, c.self.invariant.within, c.self.inside.messages.ok.0, c.drop_expired.new.messages.ok.0);
      room = omega (arith, c.drop_expired.ensures.capacity, c.drop_front.ensures.capacity, c.self.invariant.room);
      limit = c.self.invariant.limit;
      rising = λ known. subst ExpiryRises (sym is) (AllPairs-filter (λ m n. m.expiry ≤ n.expiry) p (drop taken ns) (rises_dropped taken ns (c.self.invariant.rising known)));
    }
