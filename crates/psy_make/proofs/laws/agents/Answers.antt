-- What is left of the proof of `laws::agents`.
use Rattle.std.proofs.Common.{ℕ, ◌<◌, ◌≤◌, get_or, arith}
use Rattle.std.specs.List.{range_with_len}
use Rattle.std.proofs.lemmas.List.Elements.{All-map}
use Rattle.psy_make.specs.declared.agent.Agent.{Agent}
use Rattle.psy_make.specs.Generator.{count_of, agent_of}
use Rattle.psy_make.proofs.laws.agents.Goals as goal

abbrev IsInRange : ℕ → Agent → Type 0
IsInRange seed a = (a.clock < 3) × (a.looks_at < count_of seed) × (1 ≤ a.factor) × (a.factor ≤ 9)

agent_in_range : (seed i : ℕ) → IsInRange seed (agent_of seed i)
agent_in_range seed i = (omega arith, omega arith, omega arith, omega arith)

pub returns-clause-numbers : goal.returns-clause-numbers
returns-clause-numbers c seed =
    let numbers = range_with_len 0 (count_of seed) in
    All-map (IsInRange seed) (agent_of seed) numbers (λ k d _. agent_in_range seed (get_or numbers k d))
