-- What is left of the proof of `laws::first_values`.
use Rattle.std.proofs.Common.{◌∙◌, ap}
use Rattle.psy_history.specs.Executors.{by_code, by_statements, copy_in}
use Rattle.psy_save.proofs.FirstCopies.{owner_known, same_first, stated_first}
use Rattle.psy_save.proofs.laws.first_values.Goals as goal

pub returns : goal.returns
returns c plan compiled agent variable owned =
    let known = owner_known plan.unit variable agent owned compiled.text.bare in
    ap (λ carried. copy_in carried variable)
    (same_first plan.unit plan.nexts (by_code plan.code) (by_statements plan.unit) agent known (c.alike_behind.ensures.plain plan.unit plan.code plan.nexts compiled))
    ∙ stated_first plan.unit variable agent owned
