-- The lines above the demands of a program's agents.
use Rattle.std.specs.Prelude.{◌^◌, ◌<◌, ◌≤◌}
use Rattle.psy_graph.specs.declared.graph.Graph.{Graph}
use Rattle.psy_rate.specs.declared.line.Rate.{Rate}
use Rattle.psy_rate.specs.Lines.{IsRateOf}

-- The line above the demand of a graph's agent, with numbers of some size
pub record IsLine (graph : Graph) (line : Rate) : Type 0 where
  pub its : IsRateOf graph.edges line
  pub rate : line.rate ≤ 2 ^ 40
  pub intercept : line.intercept < 2 ^ 50
