-- What each loop of `declarations::agents` keeps.
use Rattle.std.proofs.Common.{◌≡◌, take}
use Rattle.psy_tree.specs.Stands as stands
use Rattle.psy_tree.specs.Stands.{each_from}
use Rattle.psy_rules.proofs.declarations.agents.Given as goal

abbrev pub invariant-loop-at : goal.invariant-loop-at
invariant-loop-at l = l.agents ≡ each_from (stands.agents l.program.items.now) 0 (take l.at l.program.items.now)
