-- What each loop of `spreads::send_edges` keeps.
use Rattle.std.proofs.Common.{◌≡◌, ℕ, ◌<◌, length, get_or}
use Rattle.std.specs.List.{All}
use Rattle.psy_base.specs.declared.edge.Edge.{Edge}
use Rattle.psy_meaning.specs.KnownWays.{Listed}
use Rattle.psy_window.specs.Windows.{IsEdge}
use Rattle.psy_sizes.proofs.Tables.{IsSentAt}
use Rattle.psy_sizes.proofs.spreads.send_edges.Given as goal

abbrev pub invariant-edges : goal.invariant-edges
invariant-edges l = record {
  count : length l.sent ≡ l.edge-index;
  each : (i : ℕ) (d : Edge) → i < l.edge-index → IsSentAt (Listed l.ways) l.agent l.stream l.graph.nodes l.graph.edges i (get_or l.sent i d);
  edges : All (IsEdge (length l.graph.nodes)) l.sent;
}
