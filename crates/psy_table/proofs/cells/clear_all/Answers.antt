-- What is left of the proof of `cells::clear_all`.
use Rattle.std.proofs.Common.{arith}
use Rattle.psy_table.proofs.CellLemmas.{emptied_more}
use Rattle.psy_table.proofs.cells.clear_all.Goals as goal

pub loop-text-preserved : goal.loop-text-preserved
loop-text-preserved c =
    emptied_more (λ text. text.items) c.loop-text.texts c.loop-text.text-index c.clear.new.self (omega (arith, c.loop-text-test.true, c.loop-text.auto.texts))
    c.clear.ensures.items c.loop-text.invariant
