-- What each loop of `slots::slot_names` keeps.
use Rattle.std.proofs.Common.{◌≡◌, ◌++◌, map, take}
use Rattle.psy_tree.specs.Scope.{local_slot}
use Rattle.psy_tree.specs.Scope.{item_params, item_locals}
use Rattle.psy_rules.proofs.slots.slot_names.Given as goal

abbrev pub invariant-loop-name : goal.invariant-loop-name
invariant-loop-name l = map (λ n. n.now) l.names.items ≡ take l.name-index (item_params l.item)

abbrev pub invariant-loop-local : goal.invariant-loop-local
invariant-loop-local l = map (λ n. n.now) l.names.items ≡ item_params l.item ++ map (λ x. (local_slot x).name) (take l.local-index (item_locals l.item))
