-- The processor of an agent, as its declaration says.
use Rattle.std.proofs.Common.{◌≡◌, ap, refl, ℕ, zero, suc, List, [], ◌∷◌, Some, None, get_or, map}
use Rattle.std.specs.Prelude.{slice_get}
use Rattle.psy_history.specs.Processors.{processor_at}
use Rattle.psy_tree.specs.declared.unit.AgentDecl.{AgentDecl}
use Rattle.psy_tree.specs.declared.unit.Unit.{Unit as Whole}

some_at : (agents : List AgentDecl) (agent : ℕ) (decl : AgentDecl) → Some decl ≡ slice_get agents agent → decl.processor ≡ get_or (map (λ (a : AgentDecl). a.processor) agents) agent 0
some_at [] agent decl at = cc
some_at (a ∷ agents) zero decl at = (let same : decl ≡ a = cc in ap (λ (d : AgentDecl). d.processor) same)
some_at (a ∷ agents) (suc agent) decl at = some_at agents agent decl at

none_at : (agents : List AgentDecl) (agent : ℕ) → None ≡ slice_get agents agent → 0 ≡ get_or (map (λ (a : AgentDecl). a.processor) agents) agent 0
none_at [] agent at = refl
none_at (a ∷ agents) zero at = cc
none_at (a ∷ agents) (suc agent) at = none_at agents agent at

pub home_some : (unit : Whole) (agent : ℕ) (decl : AgentDecl) → Some decl ≡ slice_get unit.agents agent → decl.processor ≡ processor_at unit agent
unfolding processor_at
home_some unit agent decl at = some_at unit.agents agent decl at

pub home_none : (unit : Whole) (agent : ℕ) → None ≡ slice_get unit.agents agent → 0 ≡ processor_at unit agent
unfolding processor_at
home_none unit agent at = none_at unit.agents agent at
