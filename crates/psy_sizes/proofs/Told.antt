-- What is known of a program whose agents have graphs, when the sizes of its buffers are told.
use Rattle.std.proofs.Common.{◌≡◌, ◌⊎◌, ◌↔◌, ℕ, ◌<◌, ◌≤◌, List, length}
use Rattle.std.specs.List.{All}
use Rattle.psy_base.specs.declared.limits.TheConstants.{SENDS}
use Rattle.psy_clock.specs.declared.clock.Clock.{Clock}
use Rattle.psy_clock.specs.Dates.{IsClock, count, date}
use Rattle.psy_tree.specs.declared.unit.Unit.{Unit as Whole}
use Rattle.psy_meaning.specs.KnownWays.{HasMost, Looks, Ways}
use Rattle.psy_meaning.specs.QueueSizes.{PassesTable}
use Rattle.psy_meaning.specs.RingSizes.{agent_timing}
use Rattle.psy_meaning.specs.Units.{IsBare}
use Rattle.psy_window.specs.Windows.{IsEdge}
use Rattle.psy_graph.specs.declared.graph.Graph.{Graph}
use Rattle.psy_graph.specs.Graphs.{IsGraphOf, IsTimed}
use Rattle.psy_sizes.proofs.SpreadSums.{IsOneGraph, IsOneWeight, IsSomeWeight}

-- The dates of lawful clocks are counted by their numbers.
abbrev pub AreCounted : Type 0
AreCounted = (c : Clock) (t i : ℕ) → IsClock c → (date c i ≤ t ↔ i < count c t)

-- What tells the sizes of buffers: graphs, greatest weights and greatest numbers of sends are there, and only one of each; whether a point
-- looks can be told; and streams with a table are there.
pub record AreTold (unit : Whole) (ways : Ways) (nexts : List (List (List ℕ))) : Type 0 where
  pub bare : IsBare unit
  pub counted : AreCounted
  pub one_graph : IsOneGraph
  pub one_weight : IsOneWeight
  pub some_weight : IsSomeWeight
  pub looks : (agent point variable : ℕ) → agent < length unit.agents → Looks ways agent point variable ⊎ (Looks ways agent point variable → ⊥)
  pub one_most : (agent : ℕ) → agent < length unit.agents → (from to stream n m : ℕ) → HasMost ways agent from to stream n → HasMost ways agent from to stream m → n ≡ m
  pub some_most : (agent : ℕ) → agent < length unit.agents → (from to stream : ℕ) → (n : ℕ) × HasMost ways agent from to stream n
  pub few : (agent : ℕ) → agent < length unit.agents → (from to stream n : ℕ) → HasMost ways agent from to stream n → n ≤ SENDS
  pub timed : (agent : ℕ) → agent < length unit.agents → IsTimed (agent_timing unit nexts agent)
  pub graph_of : (agent : ℕ) → agent < length unit.agents → (graph : Graph) × IsGraphOf (agent_timing unit nexts agent) graph × All (IsEdge (length graph.nodes)) graph.edges
  pub declared : (stream : ℕ) → PassesTable unit ways nexts stream → stream < length unit.streams
