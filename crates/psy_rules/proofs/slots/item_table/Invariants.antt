-- What each loop of `slots::item_table` keeps.
use Rattle.std.proofs.Common.{take}
use Rattle.psy_tree.specs.Scope.{item_entries}
use Rattle.psy_rules.specs.Tables.{StandsFor}
use Rattle.psy_rules.proofs.slots.item_table.Given as goal

abbrev pub invariant-loop-k : goal.invariant-loop-k
invariant-loop-k l = StandsFor l.table (item_entries 0 (take l.k l.items))
