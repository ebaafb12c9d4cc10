-- What each loop of `declarations::clock_names` keeps.
use Rattle.std.proofs.Common.{◌≡◌, take}
use Rattle.std.specs.List.{flat_map}
use Rattle.psy_tree.specs.Stands as stands
use Rattle.psy_rules.proofs.declarations.clock_names.Given as goal

abbrev pub invariant-loop-item : goal.invariant-loop-item
invariant-loop-item l = l.names ≡ flat_map stands.clock_names (take l.item-index l.items)
