-- What each loop of `declarations::slots` keeps.
use Rattle.std.proofs.Common.{◌≡◌, take, map}
use Rattle.psy_tree.specs.Stands as stands
use Rattle.psy_rules.proofs.declarations.slots.Given as goal

abbrev pub invariant-loop-local : goal.invariant-loop-local
invariant-loop-local l = l.slots ≡ map stands.slot_of (take l.local-index l.locals)
