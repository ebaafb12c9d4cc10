-- What is left of the proof of `agents::emit_agents`.
use Rattle.std.proofs.Common.{◌+◌, List, ◌++◌, drop, map, length, sym, ap, ◌∙◌, arith}
use Rattle.psy_lists.proofs.lemmas.Places.{drop_read}
use Rattle.psy_tree.specs.declared.unit.AgentDecl.{AgentDecl}
use Rattle.psy_tree.specs.Paths.{total}
use Rattle.psy_gen.specs.Emission.{codes_from, agent_code, agent_size, agent_entries}
use Rattle.psy_gen.proofs.Small.{codes_left}
use Rattle.psy_gen.proofs.Wholes.{agent_length, agents_more, agent_entries_more}
use Rattle.psy_gen.proofs.agents.emit_agents.Goals as goal

pub loop-number-preserved : goal.loop-number-preserved
loop-number-preserved c =
    let unit = c.args.unit.now in
    let a = c.agent-item.result in
    let rest = drop (c.loop-number.number + 1) unit.agents in
    let here = rw c.as_slice-agent-items.ensures at (drop_read c.as_slice-agent-items.result.now c.loop-number.number a c.loop-number-test.true c.agent-item.is) in
    let at = length c.loop-number.code in
    record {
      code = agents_more a rest _ _ c.in_ok-agent_of.ensures.code ∙ ap (λ xs. c.loop-number.code ++ codes_from agent_code agent_size xs at) (sym here) ∙ c.loop-number.invariant.code;
      entries = agent_entries_more unit c.loop-number.number a rest _ _ _ _ _ c.in_ok-agent_of.ensures.code c.in_ok-agent_of.ensures.entry c.in_ok-push.ensures.ok
          ∙ ap (λ xs. c.loop-number.entries ++ agent_entries unit c.loop-number.number xs at) (sym here) ∙ c.loop-number.invariant.entries;
    }

pub agent_of-requires-clause-room : goal.agent_of-requires-clause-room
agent_of-requires-clause-room c =
    let all = c.args.unit.now.agents in
    let i = c.loop-number.number in
    let a = c.agent-item.result in
    let here = ap (λ (l : List AgentDecl). total (map agent_size l)) (rw c.as_slice-agent-items.ensures at (drop_read c.as_slice-agent-items.result.now i a c.loop-number-test.true c.agent-item.is)) in
    omega (arith, c.requires.room, here, codes_left agent_code agent_size agent_length (drop i all) all c.args.code.now c.loop-number.code c.loop-number.invariant.code)
