-- What each loop of `slots::slot_table` keeps.
use Rattle.std.proofs.Common.{take, map}
use Rattle.psy_tree.specs.Scope.{slot_entries}
use Rattle.psy_rules.specs.Tables.{StandsFor, as_slots}
use Rattle.psy_rules.proofs.slots.slot_table.Given as goal

abbrev pub invariant-loop-k : goal.invariant-loop-k
invariant-loop-k l = StandsFor l.table (slot_entries 0 (as_slots (map (λ n. n.now) (take l.k l.names))))
