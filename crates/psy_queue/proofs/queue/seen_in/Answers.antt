-- What is left of the proof of `queue::seen_in`.
use Rattle.std.proofs.Common.{◌≡◌, true, false, leb, List, sym, rules}
use Rattle.std.specs.List.Sorted.{IsPartitionedBy, IsPartitionPoint}
use Rattle.std.proofs.lemmas.List.Sorted.{IsPartitionPoint-from_clause, IsPartitionedBy-leb}
use Rattle.psy_base.specs.declared.message.Message.{Message}
use Rattle.psy_queue.proofs.lemmas.Orders.{visible_rises, length_parted}
use Rattle.psy_queue.proofs.queue.seen_in.Goals as goal

pub returns-clause-number : goal.returns-clause-number
returns-clause-number c =
    let ns : List Message = c.args.messages.now in
    let parted : IsPartitionedBy (λ (m : Message). leb m.visible c.args.start) ns = IsPartitionedBy-leb (λ (m : Message). m.visible) ns c.args.start (visible_rises ns c.requires) in
    let point : IsPartitionPoint (λ (m : Message). leb m.visible c.args.start ≡ true) (λ (m : Message). leb m.visible c.args.start ≡ false) ns c.partition_point.result =
    IsPartitionPoint-from_clause (λ (m : Message). leb m.visible c.args.start) ns c.partition_point.result c.partition_point.ensures.partitioned parted (λ a r q k. search rules) in
    sym (length_parted (λ (m : Message). leb m.visible c.args.start) ns c.partition_point.result c.partition_point.ensures.bound point)
