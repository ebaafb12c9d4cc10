-- What is left of the proof of `laws::always`.
use Rattle.psy_rate.proofs.Demands.{below_lines, always}
use Rattle.psy_rate.proofs.laws.always.Goals as goal

pub returns-clause-line : goal.returns-clause-line
returns-clause-line c = below_lines

pub returns-clause-every : goal.returns-clause-every
returns-clause-every c groups lines quantum horizon drawn are is feasible top = always c.greatest.ensures.some groups lines quantum horizon drawn are is feasible top
