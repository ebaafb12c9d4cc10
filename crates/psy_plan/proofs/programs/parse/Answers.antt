-- What is left of the proof of `programs::parse`.
use Rattle.std.proofs.Common.{◌∙◌, ap, subst, Err}
use Rattle.psy_tree.specs.Deep as deep
use Rattle.psy_plan.proofs.programs.parse.Goals as goal

pub returns-in-Err-Deep-clause-refused : goal.returns-in-Err-Deep-clause-refused
returns-in-Err-Deep-clause-refused c =
    subst (λ tokens. deep.Deep tokens c.in-Err-Deep.token) c.as_slice.ensures
    ((c.parse.ensures.deep c.in-Err-Deep.token).0 (c.in-Err-Deep.is ∙ ap Err c.in-Err-Deep.field-0-is))
