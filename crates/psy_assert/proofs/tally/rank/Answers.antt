-- What is left of the proof of `tally::rank`.
use Rattle.std.proofs.Common.{◌≡◌, true, false, List, sym, rules}
use Rattle.std.specs.List.Sorted.{IsPartitionPoint}
use Rattle.std.proofs.lemmas.List.Sorted.{IsPartitionPoint-from_clause}
use Rattle.psy_assert.specs.declared.cut.Cut.{Cut}
use Rattle.psy_assert.specs.Cuts.{is_before}
use Rattle.psy_assert.proofs.Ranks.{cuts_parted, length_parted}
use Rattle.psy_assert.proofs.tally.rank.Goals as goal

pub returns : goal.returns
returns c =
    let cuts : List Cut = c.args.cuts.now in
    let test = λ (other : Cut). is_before other c.args.cut.now in
    let point : IsPartitionPoint (λ y. test y ≡ true) (λ y. test y ≡ false) cuts c.partition_point.result =
    IsPartitionPoint-from_clause test cuts c.partition_point.result c.partition_point.ensures.partitioned (cuts_parted cuts c.args.cut.now c.requires.order) (λ a r q k. search rules) in
    sym (length_parted test cuts c.partition_point.result c.partition_point.ensures.bound point)
