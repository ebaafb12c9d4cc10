-- Agents, variables and streams that code reads by their number.
use Rattle.std.proofs.Common.{◌≡◌, ℕ, ◌<◌, List, length, get_or, ap, ◌∙◌}
use Rattle.std.proofs.lemmas.List.{get_or_default}
use Rattle.psy_tree.specs.declared.unit.AgentDecl.{AgentDecl}
use Rattle.psy_tree.specs.declared.unit.StreamDecl.{StreamDecl}
use Rattle.psy_tree.specs.declared.unit.Unit.{Unit as Whole}
use Rattle.psy_tree.specs.declared.unit.VarDecl.{VarDecl}
use Rattle.psy_tree.specs.Parts.{agent_at, no_agent, stream_at, variable_at}

module _ (unit : Whole) (number : ℕ) where
  pub agent_found : (agents : List AgentDecl) (a : AgentDecl) → agents ≡ unit.agents → number < length agents → get_or agents number a ≡ agent_at unit number
  agent_found agents a same within = get_or_default agents number a no_agent within ∙ ap (λ all. agent_at (record unit { agents = all }) number) same

  pub variable_found : (variables : List VarDecl) (at : ℕ) (v : VarDecl) → variables ≡ unit.variables → at ≡ number → at < length variables → get_or variables at v ≡ variable_at unit number
  variable_found variables at v same is within = get_or_default variables at v _ within ∙ ap (λ all. variable_at (record unit { variables = all }) at) same ∙ ap (variable_at unit) is

  pub stream_found : (streams : List StreamDecl) (at : ℕ) (d : StreamDecl) → streams ≡ unit.streams → at ≡ number → at < length streams → get_or streams at d ≡ stream_at unit number
  stream_found streams at d same is within = get_or_default streams at d _ within ∙ ap (λ all. stream_at (record unit { streams = all }) at) same ∙ ap (stream_at unit) is
