-- What is left of the proof of `laws::own_processor`.
use Rattle.std.proofs.Common.{sym, ap, ◌∙◌}
use Rattle.std.proofs.lemmas.List.{get_or-map}
use Rattle.std.proofs.lemmas.Option.{slice_get-get_or}
use Rattle.psy_history.specs.Processors.{processor_at}
use Rattle.psy_match.specs.Homes.{told}
use Rattle.psy_tree.specs.declared.unit.AgentDecl.{AgentDecl}
use Rattle.psy_tree.specs.Parts.{agent_at, no_agent}
use Rattle.psy_match.proofs.OwnHomes.{own_home}
use Rattle.psy_match.proofs.laws.own_processor.Goals as goal

pub returns : goal.returns
unfolding processor_at
returns c = λ unit agent bare within.
    own_home unit agent (agent_at unit agent) bare (slice_get-get_or unit.agents agent no_agent within)
    ∙ ap told (sym (get_or-map (λ (a : AgentDecl). a.processor) unit.agents agent no_agent 0 within))
