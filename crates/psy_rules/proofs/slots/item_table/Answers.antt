-- What is left of the proof of `slots::item_table`.
use Rattle.std.proofs.Common.{sym, ap}
use Rattle.psy_rules.proofs.Tables.{stands-items_more}
use Rattle.psy_rules.proofs.slots.item_table.Goals as goal

pub loop-k-preserved : goal.loop-k-preserved
loop-k-preserved c =
    stands-items_more c.args.items.now c.loop-k.k c.index-items-k.result c.loop-k.table c.add.new.self c.item_name.result.now.text
    c.loop-k.invariant c.loop-k-test.true (sym c.index-items-k.is) (ap (λ n. n.text) c.item_name.ensures) c.in_ok-add.ensures
