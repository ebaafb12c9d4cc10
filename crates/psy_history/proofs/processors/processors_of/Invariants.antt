-- What each loop of `processors::processors_of` keeps.
use Rattle.std.proofs.Common.{◌≡◌, map, max, drop}
use Rattle.psy_base.specs.Extremes.{most_of}
use Rattle.psy_tree.specs.declared.unit.AgentDecl.{AgentDecl}
use Rattle.psy_tree.specs.Parts.{homes}
use Rattle.psy_history.proofs.processors.processors_of.Given as goal

-- The greatest number so far, or one of those to come, is the greatest of all
abbrev pub invariant-loop-agent : goal.invariant-loop-agent
invariant-loop-agent l = max l.last (most_of (map (λ (agent : AgentDecl). agent.processor) (drop l.agent-index l.unit.agents))) ≡ most_of (homes l.unit)
