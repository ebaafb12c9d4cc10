-- What is left of the proof of `slots::slot_table`.
use Rattle.std.proofs.Common.{sym}
use Rattle.psy_rules.proofs.Tables.{stands-slots_more}
use Rattle.psy_rules.proofs.slots.slot_table.Goals as goal

pub loop-k-preserved : goal.loop-k-preserved
loop-k-preserved c =
    stands-slots_more (λ n. n.now) c.args.names.now c.loop-k.k c.index-names-k.result c.loop-k.table c.add.new.self
    c.loop-k.invariant c.loop-k-test.true (sym c.index-names-k.is) c.in_ok-add.ensures
