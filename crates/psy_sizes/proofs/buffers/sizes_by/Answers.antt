-- What is left of the proof of `buffers::sizes_by`.
use Rattle.psy_sizes.proofs.ReadLists.{known_stream}
use Rattle.psy_sizes.proofs.buffers.sizes_by.Goals as goal

pub returns-clause-counted : goal.returns-clause-counted
returns-clause-counted c stream passes =
    let unit = c.args.unit.now in
    let ways = c.args.ways.now in
    c.in_ok-queues.ensures.counted stream (known_stream unit ways ways.nexts c.requires.ways stream passes) passes
