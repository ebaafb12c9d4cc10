-- Of which processors the agents of a program are, where that isn't processor 0.
use Rattle.std.specs.Prelude.{ℕ, ◌==◌, List, [], ◌∷◌, Option, None, Some, cond}
use Rattle.std.specs.List.{flat_map}
use Rattle.psy_draw.specs.Homes.{Housed}
use Rattle.psy_tree.specs.declared.unit.AgentDecl.{AgentDecl}
use Rattle.psy_tree.specs.declared.unit.Unit.{Unit as Whole}

-- An agent and its processor, where that isn't processor 0
abbrev pub home_of : AgentDecl → List Housed
home_of agent = cond (agent.processor == 0) [] (record { agent = agent.name; processor = agent.processor } ∷ [])

-- Those of a program
abbrev pub homes_in : Whole → List Housed
homes_in unit = flat_map home_of unit.agents

-- The processor that is told beside an agent's name: none where it is processor 0
abbrev pub told : ℕ → Option ℕ
told processor = cond (processor == 0) None (Some processor)
