-- What is left of the proof of `dates::clock_of`.
use Rattle.std.proofs.Common.{◌∙◌}
use Rattle.psy_collect.proofs.Rows.{get_or_none}
use Rattle.psy_collect.proofs.dates.clock_of.Goals as goal

pub returns-in-None-clause-value : goal.returns-in-None-clause-value
returns-in-None-clause-value c = c.base.ensures.clock ∙ get_or_none c.args.plan.now.unit.clocks c.args.clock _ c.in-None.ensures.value
