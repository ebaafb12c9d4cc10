-- Which limit the graph of one agent passes.
use Rattle.std.specs.Prelude.{◌≡◌, ℕ}
use Rattle.psy_meaning.specs.Timing.{Timing}
use Rattle.psy_meaning.specs.Graph.{PassesNodes, PassesEdges}
use Rattle.psy_graph.specs.declared.fault.GraphFault.{GraphFault}
use Rattle.psy_graph.specs.declared.fault.GraphFault.TheVariants.{Nodes, Edges, Memory}

-- The graph of the agent with this number, whose actions begin and end so, passes a limit.
abbrev pub IsFaultOf : Timing → ℕ → GraphFault → Type 0
IsFaultOf timing number (Nodes agent) = (agent ≡ number) × PassesNodes timing
IsFaultOf timing number (Edges agent) = (agent ≡ number) × PassesEdges timing
IsFaultOf timing number Memory = ⊥
