-- What is left of the proof of `lines::variable_name`.
use Rattle.std.proofs.Common.{ap}
use Rattle.psy_tree.specs.Parts.{no_variable}
use Rattle.psy_tree.specs.declared.unit.VarDecl.{VarDecl}
use Rattle.psy_collect.proofs.Rows.{get_or_none}
use Rattle.psy_collect.proofs.lines.variable_name.Goals as goal

pub returns-in-None : goal.returns-in-None
returns-in-None c = ap (λ (d : VarDecl). d.name) (get_or_none c.args.unit.now.variables c.args.variable no_variable c.in-None.ensures.value)
