-- What is left of the proof of `declarations::function`.
use Rattle.std.proofs.Common.{◌≤◌, length, arith}
use Rattle.psy_base.specs.declared.limits.TheConstants.{NAMES}
use Rattle.psy_tree.specs.Scope.{slots_of}
use Rattle.psy_rules.proofs.Counting.{params_few}
use Rattle.psy_rules.proofs.declarations.function.Goals as goal

pub overflow_cast-result : goal.overflow_cast-result
overflow_cast-result c =
    let few : length (slots_of c.args.item.now) ≤ NAMES = c.requires.program.limits.names c.args.at c.args.item.now c.requires.own in
    omega (arith, few, c.len.ensures, params_few c.args.item.now c.in-Function.name c.in-Function.params c.in-Function.locals c.in-Function.stmts c.in-Function.is)
