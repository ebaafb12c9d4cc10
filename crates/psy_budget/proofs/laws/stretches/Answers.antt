-- What is left of the proof of `laws::stretches`.
use Rattle.std.proofs.Common.{ap}
use Rattle.psy_budget.specs.Charges.{Charged}
use Rattle.psy_budget.specs.declared.charge.Tick.TheVariants.{Paid, Stalled}
use Rattle.psy_budget.proofs.Stretches.{further, ticked_all}
use Rattle.psy_budget.proofs.laws.stretches.Goals as goal

pub returns-clause-further : goal.returns-clause-further
returns-clause-further e c n more = further c n more

pub returns-clause-paid : goal.returns-clause-paid
returns-clause-paid e c n all = ap (λ (d : Charged). d.paid) (ticked_all Paid c n all)

pub returns-clause-stalled : goal.returns-clause-stalled
returns-clause-stalled e c n all = ap (λ (d : Charged). d.paid) (ticked_all Stalled c n all)
