-- What is left of the proof of `names::Names::of_variables`.
use Rattle.psy_script.proofs.NamePlaces.{variables_differ, absent_next}
use Rattle.psy_script.proofs.names.Names.of_variables.Goals as goal

pub add-requires-clause-absent : goal.add-requires-clause-absent
add-requires-clause-absent c =
    let items = c.as_slice-variable-items.ensures in
    rw c.loop-variable.invariant (absent_next (λ v. v.name) c.args.unit.now.variables c.loop-variable.variable-index c.variable-item.result
    (variables_differ c.args.unit.now c.requires) (rw items at c.loop-variable-test.true) (rw items at c.variable-item.is))
