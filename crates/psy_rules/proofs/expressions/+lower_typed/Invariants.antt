-- What each loop of `expressions::+lower_typed` keeps.
use Rattle.std.proofs.Common.{◌≡◌, map, take}
use Rattle.psy_arith.specs.declared.width.Width.TheVariants.{W32}
use Rattle.psy_tree.specs.Stands.{into, typed_of}
use Rattle.psy_rules.specs.Lowered.{site}
use Rattle.psy_rules.proofs.expressions.+lower_typed.Given as goal

abbrev pub invariant-lower_arguments-loop-expr : goal.invariant-lower_arguments-loop-expr
invariant-lower_arguments-loop-expr l = l.lowered ≡ map (into W32) (map (typed_of (site l.numbered)) (take l.expr-index l.exprs))
