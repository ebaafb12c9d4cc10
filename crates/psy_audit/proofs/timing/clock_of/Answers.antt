-- What is left of the proof of `timing::clock_of`.
use Rattle.std.proofs.Common.{◌∙◌}
use Rattle.psy_audit.proofs.Places.{get_or_none}
use Rattle.psy_audit.proofs.timing.clock_of.Goals as goal

pub returns-in-None-clause-value : goal.returns-in-None-clause-value
returns-in-None-clause-value c = c.base.ensures.clock ∙ get_or_none c.args.plan.now.unit.clocks c.args.clock _ c.in-None.ensures.value
