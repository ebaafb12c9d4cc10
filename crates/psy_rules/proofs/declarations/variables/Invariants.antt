-- What each loop of `declarations::variables` keeps.
use Rattle.std.proofs.Common.{◌≡◌, take}
use Rattle.std.specs.List.{flat_map}
use Rattle.psy_tree.specs.Stands as stands
use Rattle.psy_rules.proofs.declarations.variables.Given as goal

abbrev pub invariant-loop-item : goal.invariant-loop-item
invariant-loop-item l = l.variables ≡ flat_map (stands.variables l.program.items.now) (take l.item-index l.program.items.now)
