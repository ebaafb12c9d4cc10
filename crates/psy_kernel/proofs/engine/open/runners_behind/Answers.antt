-- What is left of the proof of `engine::open::runners_behind`.
use Rattle.std.proofs.Common.{◌≡◌, [], ◌∷◌, ◌++◌, length, length-append, Some, ap, sym, subst, ◌∙◌, arith}
use Rattle.std.specs.Prelude.{slice_get}
use Rattle.std.proofs.lemmas.Option.{get_or_from_slice_get}
use Rattle.psy_lists.proofs.lemmas.Places.{each_pushed}
use Rattle.psy_dates.specs.declared.opening.AgentOpening.{AgentOpening}
use Rattle.psy_kernel.specs.Resuming.{AreBehind, IsRunnerBehind}
use Rattle.psy_kernel.proofs.engine.open.runners_behind.Goals as goal

pub agents-preserved : goal.agents-preserved
agents-preserved c =
    let code = c.args.code.now in
    let script = c.args.script.now in
    let agents = c.args.agents.now in
    let old = c.agents.runners.items in
    let runner = c.in_ok-runner_behind.field-0 in
    let pushed : c.push.new.self.items ≡ old ++ runner ∷ [] = c.in_ok-push.ensures.items in
    let count = c.agents.invariant.count in
    record {
      count = omega (arith, ap length pushed, count, length-append old (runner ∷ []));
      behind = subst (AreBehind code script agents) (sym pushed)
          (each_pushed (λ agent x. (known : AgentOpening) → slice_get agents agent ≡ Some known → IsRunnerBehind code script agent known x) old runner c.agents.invariant.behind
          (λ known at. (let here : slice_get agents c.agents.agent ≡ Some known = subst (λ k. slice_get agents k ≡ Some known) count at in
          let same : c.index-agents-agent.result ≡ known = c.index-agents-agent.is ∙ get_or_from_slice_get agents c.agents.agent known _ here in
          subst (λ k. IsRunnerBehind code script k known runner) (sym count) (subst (λ (o : AgentOpening). IsRunnerBehind code script c.agents.agent o runner) same c.in_ok-runner_behind.ensures))));
    }
