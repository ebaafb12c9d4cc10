-- What is left of the proof of `engine::boot::declared_of`.
use Rattle.std.proofs.Common.{◌≡◌, [], ◌∷◌, ◌++◌, sym, ap, ◌∙◌, arith}
use Rattle.psy_kernel.proofs.Booted.{range_more}
use Rattle.psy_kernel.proofs.engine.boot.declared_of.Goals as goal

pub loop-agent-preserved : goal.loop-agent-preserved
loop-agent-preserved c =
    let agent = c.loop-agent.agent in
    let pushed : c.push.new.self.items ≡ c.loop-agent.declared.items ++ agent ∷ [] = c.in_ok-push.ensures.items in
    pushed ∙ ap (λ agents. agents ++ agent ∷ []) c.loop-agent.invariant ∙ sym (range_more 0 agent agent (omega arith))
