-- What each loop of `paths::most_points` keeps.
use Rattle.std.proofs.Common.{◌≡◌, length, map, take}
use Rattle.psy_base.specs.Extremes.{most_of}
use Rattle.psy_tree.specs.declared.unit.AgentDecl.{AgentDecl}
use Rattle.psy_flow.proofs.paths.most_points.Given as goal

abbrev pub invariant-agents : goal.invariant-agents
invariant-agents l = l.most ≡ most_of (map (λ (a : AgentDecl). length a.points) (take l.agent-index l.unit.agents))
