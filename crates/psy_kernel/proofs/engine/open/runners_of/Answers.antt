-- What is left of the proof of `engine::open::runners_of`.
use Rattle.std.proofs.Common.{List, subst}
use Rattle.std.specs.Prelude.{IfOk}
use Rattle.psy_dates.specs.declared.opening.AgentOpening.{AgentOpening}
use Rattle.psy_kernel.specs.Resuming.{AreBehind}
use Rattle.psy_kernel.proofs.engine.open.runners_of.Goals as goal

pub returns-clause-behind : goal.returns-clause-behind
returns-clause-behind c =
    subst (λ (agents : List AgentOpening). IfOk c.runners_behind.result (λ runners. AreBehind c.args.plan.now.code c.args.script.now agents runners.items)) c.as_slice.ensures c.runners_behind.ensures.behind
