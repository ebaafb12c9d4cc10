-- The spread of an agent by its table, whether the table is too large, and the sums of spreads.
use Rattle.std.proofs.Common.{◌≡◌, ℕ, ◌+◌, ◌*◌, ◌<◌, ◌≤◌, true, List, map, length, sym, ap, subst, ◌∙◌, inl, inr, arith}
use Rattle.std.proofs.lemmas.Bool.{cases_lt}
use Rattle.std.proofs.lemmas.List.{length-map}
use Rattle.psy_base.specs.declared.edge.Edge.{Edge}
use Rattle.psy_base.specs.declared.limits.TheConstants.{WINDOW_CELLS}
use Rattle.psy_base.specs.Paths.{FitsFirstFree, IsGreatestWeight}
use Rattle.psy_tree.specs.declared.unit.Unit.{Unit as Whole}
use Rattle.psy_meaning.specs.KnownWays.{Ways, sends_to}
use Rattle.psy_meaning.specs.QueueSizes.{AreSendEdges, IsSpread, IsWindow, PassesTable}
use Rattle.psy_meaning.specs.RingSizes.{agent_timing}
use Rattle.psy_graph.specs.declared.graph.Graph.{Graph}
use Rattle.psy_graph.specs.Graphs.{IsGraphOf, spot_of}
use Rattle.psy_graph.proofs.lemmas.Unique.{drawn_spots}
use Rattle.psy_sizes.specs.Queues.{IsTop, PassesTableOf}
use Rattle.psy_sizes.proofs.Tables.{some_node}
use Rattle.psy_sizes.proofs.WindowOf.{top_is}

-- ---- the table of an agent

module _ (unit : Whole) (ways : Ways) (nexts : List (List (List ℕ))) (stream number : ℕ) (graph : Graph) (drawn : IsGraphOf (agent_timing unit nexts number) graph) where
  pub not_passed : ((window : ℕ) → IsWindow unit ways nexts stream window → length graph.nodes * window ≤ WINDOW_CELLS) → PassesTableOf unit ways nexts stream number → ⊥
  not_passed fits (window, spots, edges, sends, is, its, passes) =
      let same : spots ≡ map spot_of graph.nodes = drawn_spots (agent_timing unit nexts number) spots (map spot_of graph.nodes) edges graph.edges its drawn.drawn in
      let count : length spots ≡ length graph.nodes = ap length same ∙ length-map graph.nodes spot_of in
      let whole : length spots * window ≡ length graph.nodes * window = ap (λ n. n * window) count in
      let small = fits window is in
      omega (arith, passes, small, whole)

  pub passed : (window : ℕ) → sends_to ways number stream ≡ true → IsWindow unit ways nexts stream window → WINDOW_CELLS < length graph.nodes * window → PassesTableOf unit ways nexts stream number
  passed window sends is passes =
      (window, map spot_of graph.nodes, graph.edges, sends, is, drawn.drawn, subst (λ n. WINDOW_CELLS < n * window) (sym (length-map graph.nodes spot_of)) passes)

  -- The greatest weight of its paths in a window
  pub spread_is : (sent : List Edge) (window top n : ℕ) → AreSendEdges ways number stream (map spot_of graph.nodes) graph.edges sent → IsWindow unit ways nexts stream window → IsTop unit ways nexts stream top
      → length graph.nodes * (top + 1) ≤ WINDOW_CELLS → IsGreatestWeight sent (FitsFirstFree top) n → IsSpread unit ways nexts stream window number n
  spread_is sent window top n are is last fits most =
      let (least, whole) = top_is unit ways nexts stream window top (length graph.nodes) is (some_node (agent_timing unit nexts number) graph drawn) last fits in
      (map spot_of graph.nodes, graph.edges, sent, drawn.drawn, are, subst (λ l. IsGreatestWeight sent (FitsFirstFree l) n) whole most)

-- ---- the tables of all agents

-- None of the tables of one agent more is too large.
pub none_more : (unit : Whole) (ways : Ways) (nexts : List (List (List ℕ))) (stream k : ℕ) → ((agent : ℕ) → agent < k → PassesTableOf unit ways nexts stream agent → ⊥) → (PassesTableOf unit ways nexts stream k → ⊥) →
    (agent : ℕ) → agent < k + 1 → PassesTableOf unit ways nexts stream agent → ⊥
none_more unit ways nexts stream k before own agent less passes = elim (cases_lt agent k) [
  | inl l ↦ before agent l passes
  | inr l ↦ (let is : agent ≡ k = omega (arith, less, l) in own (subst (PassesTableOf unit ways nexts stream) is passes))
]

pub none_passed : (unit : Whole) (ways : Ways) (nexts : List (List (List ℕ))) (stream : ℕ) → ((agent : ℕ) → agent < length unit.agents → PassesTableOf unit ways nexts stream agent → ⊥) → PassesTable unit ways nexts stream → ⊥
none_passed unit ways nexts stream none (agent, window, spots, edges, less, c, is, its, passes) = none agent less (window, spots, edges, c, is, its, passes)

pub one_passed : (unit : Whole) (ways : Ways) (nexts : List (List (List ℕ))) (stream agent : ℕ) → agent < length unit.agents → PassesTableOf unit ways nexts stream agent → PassesTable unit ways nexts stream
one_passed unit ways nexts stream agent less (window, spots, edges, c, is, its, passes) = (agent, window, spots, edges, less, c, is, its, passes)
