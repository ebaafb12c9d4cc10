-- What is left of the proof of `queue::expired`.
use Rattle.std.proofs.Common.{◌≡◌, true, false, leb, List, rules}
use Rattle.std.specs.List.Sorted.{IsPartitionedBy, IsPartitionPoint}
use Rattle.std.proofs.lemmas.List.Sorted.{IsPartitionPoint-from_clause, IsPartitionedBy-leb}
use Rattle.psy_base.specs.declared.message.Message.{Message}
use Rattle.psy_queue.proofs.Expiries.{expiry_rises, left_behind}
use Rattle.psy_queue.proofs.queue.expired.Goals as goal

pub returns-clause-rest : goal.returns-clause-rest
returns-clause-rest c =
    let ns : List Message = c.args.messages.now in
    let parted : IsPartitionedBy (λ (m : Message). leb m.expiry c.args.date) ns = IsPartitionedBy-leb (λ (m : Message). m.expiry) ns c.args.date (expiry_rises ns c.requires) in
    let point : IsPartitionPoint (λ (m : Message). leb m.expiry c.args.date ≡ true) (λ (m : Message). leb m.expiry c.args.date ≡ false) ns c.partition_point.result =
    IsPartitionPoint-from_clause (λ (m : Message). leb m.expiry c.args.date) ns c.partition_point.result c.partition_point.ensures.partitioned parted (λ a r q k. search rules) in
    left_behind c.args.date ns c.partition_point.result c.partition_point.ensures.bound point
