-- What is left of the proof of `queue::place_of`.
use Rattle.std.proofs.Common.{◌≡◌, Bool, true, false, not, List, get_or, refl, sym, rules}
use Rattle.std.specs.List.Sorted.{IsPartitionPoint}
use Rattle.std.proofs.lemmas.List.Sorted.{IsPartitionPoint-from_clause}
use Rattle.psy_base.specs.declared.message.Message.{Message}
use Rattle.psy_queue.specs.Order.{comes_before}
use Rattle.psy_queue.proofs.lemmas.Orders.{parted_before}
use Rattle.psy_queue.proofs.queue.place_of.Goals as goal

not_true : (b : Bool) → not b ≡ true → b ≡ false
not_true true e = sym e
not_true false e = refl

not_false : (b : Bool) → not b ≡ false → b ≡ true
not_false true e = refl
not_false false e = sym e

pub returns-clause-point : goal.returns-clause-point
returns-clause-point c =
    let m : Message = c.args.message.now in
    let ns : List Message = c.args.messages.now in
    let point : IsPartitionPoint (λ n. not (comes_before m n) ≡ true) (λ n. not (comes_before m n) ≡ false) ns c.partition_point.result =
    IsPartitionPoint-from_clause (λ n. not (comes_before m n)) ns c.partition_point.result c.partition_point.ensures.partitioned (parted_before m ns c.requires) (λ a r q k. search rules) in
    (λ i d more less. not_true (comes_before m (get_or ns i d)) (point.0 i d more less), λ i d more less. not_false (comes_before m (get_or ns i d)) (point.1 i d more less))
