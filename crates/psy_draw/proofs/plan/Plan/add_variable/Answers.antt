-- What is left of the proof of `plan::Plan::add_variable`.
use Rattle.std.proofs.Common.{ap, ◌∙◌}
use Rattle.psy_lists.proofs.lemmas.Tests.{both}
use Rattle.psy_draw.specs.Gathering.{asks_variable}
use Rattle.psy_draw.specs.Sources.{names_in}
use Rattle.psy_draw.proofs.Eachs.{itself}
use Rattle.psy_draw.proofs.plan.Plan.add_variable.Goals as goal

pub returns-in-VariableEnd-clause-lanes : goal.returns-in-VariableEnd-clause-lanes
returns-in-VariableEnd-clause-lanes c = rw c.in-VariableEnd.is c.add_values.ensures.lanes

pub returns-in-VariableEnd-clause-inputs : goal.returns-in-VariableEnd-clause-inputs
returns-in-VariableEnd-clause-inputs c = rw c.in-VariableEnd.is c.add_values.ensures.inputs

pub add_values-requires : goal.add_values-requires
add_values-requires c = λ asked.
    let name = c.in-VariableEnd.variable.now in
    c.requires name (ap (asks_variable (names_in c.args.source) name) c.in-VariableEnd.is ∙ both _ _ (itself name) asked)
