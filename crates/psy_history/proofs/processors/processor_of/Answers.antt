-- What is left of the proof of `processors::processor_of`.
use Rattle.std.proofs.Common.{sym, ap, ◌∙◌, get_or}
use Rattle.std.proofs.lemmas.List.{get_or-map}
use Rattle.psy_tree.specs.declared.unit.AgentDecl.{AgentDecl}
use Rattle.psy_history.specs.Processors.{processor_at}
use Rattle.psy_history.proofs.processors.processor_of.Goals as goal

pub returns : goal.returns
unfolding processor_at
returns c =
    let agent = c.index-as_slice-agent.result in
    ap (λ agents. (get_or agents c.args.agent agent).processor) c.as_slice.ensures
    ∙ sym (get_or-map (λ (a : AgentDecl). a.processor) c.args.unit.now.agents c.args.agent agent 0 c.requires)
