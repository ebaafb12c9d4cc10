-- What is left of the proof of `agent::draw_agents`.
use Rattle.std.proofs.Common.{ℕ, ◌+◌, List, [], ◌∷◌, ◌++◌, map, ◌≡◌, ◌∙◌, ap, refl, arith}
use Rattle.std.specs.List.{range_with_len}
use Rattle.std.proofs.lemmas.List.FromFn.{map-range_with_len_more}
use Rattle.psy_make.specs.declared.agent.Agent.{Agent}
use Rattle.psy_make.specs.Generator.{agent_of}
use Rattle.psy_make.proofs.agent.draw_agents.Goals as goal

-- One agent more was drawn
agents_more : (seed i : ℕ) (before now : List Agent) (a : Agent) → before ≡ map (agent_of seed) (range_with_len 0 i) → a ≡ agent_of seed i → now ≡ before ++ a ∷ [] → now ≡ map (agent_of seed) (range_with_len 0 (i + 1))
agents_more seed i before now a are is pushed = pushed ∙ rw (are, is, map-range_with_len_more (agent_of seed) 0 i i (omega arith)) refl

pub loop-number-preserved : goal.loop-number-preserved
loop-number-preserved c =
    let next = c.draw_agent.ensures c.args.seed c.loop-number.invariant.drawn (ap (λ d. 8 + d) c.draw-count.ensures.drawn) in
    record {
      drawn = next.1;
      agents = agents_more c.args.seed c.loop-number.number _ _ _ c.loop-number.invariant.agents next.0 c.in_ok-push.ensures.items;
    }
