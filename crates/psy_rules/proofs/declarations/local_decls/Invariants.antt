-- What each loop of `declarations::local_decls` keeps.
use Rattle.std.proofs.Common.{◌≡◌, take, map}
use Rattle.psy_tree.specs.Stands as stands
use Rattle.psy_rules.proofs.declarations.local_decls.Given as goal

abbrev pub invariant-loop-local : goal.invariant-loop-local
invariant-loop-local l = l.decls ≡ map stands.local_of (take l.local-index l.locals)
