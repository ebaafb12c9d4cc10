-- What is left of the proof of `laws::units`.
use Rattle.psy_budget.specs.Charges.{after_start}
use Rattle.psy_budget.proofs.lemmas.Units.{pays, stalls_else, spent}
use Rattle.psy_budget.proofs.laws.units.Goals as goal

pub returns-clause-paid : goal.returns-clause-paid
returns-clause-paid e c budget cycle instr less = pays c.stalls (after_start c budget).started budget cycle instr less

pub returns-clause-stalled : goal.returns-clause-stalled
returns-clause-stalled e c budget cycle less = stalls_else c.stalls (after_start c budget).started budget cycle less

pub returns-clause-spent : goal.returns-clause-spent
returns-clause-spent e c budget cycle = spent c.stalls (after_start c budget).started budget cycle
