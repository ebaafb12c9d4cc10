-- What is left of the proof of `measures::lists_of`.
use Rattle.std.proofs.Common.{subst}
use Rattle.psy_demand.specs.Criterion.{AreEach, AreWeights}
use Rattle.psy_report.proofs.measures.lists_of.Goals as goal

pub returns-in-Ok-clause-lists : goal.returns-in-Ok-clause-lists
returns-in-Ok-clause-lists c = subst (λ graphs. AreEach (AreWeights c.args.top) graphs c.in-Ok.lists) c.as_slice.ensures c.in-Ok.ensures.lists
