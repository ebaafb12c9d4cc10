-- The processor that an agent is of.
use Rattle.std.proofs.Common.{◌≡◌, refl, ap, ◌∙◌, arith}
use Rattle.std.specs.Prelude.{ℕ, zero, suc, ◌<◌, List, [], ◌∷◌, get_or, map}
use Rattle.std.specs.List.{All}
use Rattle.std.proofs.lemmas.List.{get_or_default}
use Rattle.psy_history.specs.Processors.{processor_at, processors}
use Rattle.psy_tree.specs.Parts.{no_agent}
use Rattle.psy_tree.specs.declared.unit.AgentDecl.{AgentDecl}
use Rattle.psy_tree.specs.declared.unit.Unit.{Unit as Whole}
use Rattle.psy_kernel.specs.Starting.{home_at}

home_of : (agents : List AgentDecl) (agent : ℕ) → home_at agents agent ≡ get_or (map (λ (a : AgentDecl). a.processor) agents) agent 0
home_of [] agent = refl
home_of (a ∷ agents) zero = refl
home_of (a ∷ agents) (suc agent) = home_of agents agent

pub home_is : (unit : Whole) (agent : ℕ) → home_at unit.agents agent ≡ processor_at unit agent
unfolding processor_at
home_is unit agent = home_of unit.agents agent

-- Each agent's is one of so many.
pub homes_within : (unit : Whole) (count : ℕ) → count ≡ processors unit → ((agent : ℕ) → processor_at unit agent < processors unit) → All (λ (a : AgentDecl). a.processor < count) unit.agents
homes_within unit count e one k d less =
    let same : (get_or unit.agents k d).processor ≡ processor_at unit k = ap (λ (a : AgentDecl). a.processor) (get_or_default unit.agents k d no_agent less) ∙ home_is unit k in
    omega (arith, one k, same, e)
