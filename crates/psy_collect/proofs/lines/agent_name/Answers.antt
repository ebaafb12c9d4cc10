-- What is left of the proof of `lines::agent_name`.
use Rattle.std.proofs.Common.{ap}
use Rattle.psy_tree.specs.Parts.{no_agent}
use Rattle.psy_tree.specs.declared.unit.AgentDecl.{AgentDecl}
use Rattle.psy_collect.proofs.Rows.{get_or_none}
use Rattle.psy_collect.proofs.lines.agent_name.Goals as goal

pub returns-in-None : goal.returns-in-None
returns-in-None c = ap (λ (d : AgentDecl). d.name) (get_or_none c.args.unit.now.agents c.args.agent no_agent c.in-None.ensures.value)
