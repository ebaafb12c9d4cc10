-- Whether a table of windows has too many cells can be told, where the agents have graphs: agent by agent.
use Rattle.std.proofs.Common.{◌≡◌, ◌⊎◌, ℕ, zero, suc, ◌*◌, ◌<◌, ◌≤◌, List, map, length, true, sym, ◌∙◌, subst, inl, inr, arith}
use Rattle.std.proofs.lemmas.Bool.{cases_Bool, cases_lt, false≢true}
use Rattle.psy_base.specs.declared.edge.Edge.{Edge}
use Rattle.psy_base.specs.declared.limits.TheConstants.{WINDOW_CELLS}
use Rattle.psy_tree.specs.declared.unit.Unit.{Unit as Whole}
use Rattle.psy_meaning.specs.Graph.{Spot, IsGraph}
use Rattle.psy_meaning.specs.KnownWays.{Ways, sends_to}
use Rattle.psy_meaning.specs.QueueSizes.{IsWindow, PassesTable}
use Rattle.psy_meaning.specs.RingSizes.{agent_timing}
use Rattle.psy_graph.specs.declared.graph.Graph.{Graph}
use Rattle.psy_graph.specs.Graphs.{IsGraphOf, spot_of}
use Rattle.psy_sizes.proofs.SpreadSums.{IsOneGraph}
use Rattle.psy_sizes.proofs.WindowsOf.{same_window}

module _ (unit : Whole) (ways : Ways) (nexts : List (List (List ℕ))) (stream : ℕ) where
  -- The table of this agent has too many cells.
  abbrev PassesAt : ℕ → Type 0
  PassesAt agent =
      (window : ℕ) × (spots : List Spot) × (edges : List Edge)
      × (sends_to ways agent stream ≡ true)
      × IsWindow unit ways nexts stream window
      × IsGraph (agent_timing unit nexts agent) spots edges
      × (WINDOW_CELLS < length spots * window)

  -- That of one of the agents before this one
  abbrev PassesBefore : ℕ → Type 0
  PassesBefore agents = (agent : ℕ) × (agent < agents) × PassesAt agent

  module _ (one_graph : IsOneGraph) (window : ℕ) (is : IsWindow unit ways nexts stream window)
      (graph_of : (agent : ℕ) → agent < length unit.agents → (graph : Graph) × IsGraphOf (agent_timing unit nexts agent) graph) where
    -- By a graph of an agent that has few cells it has no table with too many.
    small_table : (agent : ℕ) (graph : Graph) → IsGraphOf (agent_timing unit nexts agent) graph → length (map spot_of graph.nodes) * window ≤ WINDOW_CELLS → PassesAt agent → ⊥
    small_table agent graph drawn few (other, spots, edges, c, also, g, many) =
        let (same, rest) = one_graph (agent_timing unit nexts agent) spots (map spot_of graph.nodes) edges graph.edges g drawn.drawn in
        let windows = same_window unit ways nexts stream other window also is in
        let here : WINDOW_CELLS < length (map spot_of graph.nodes) * window = subst (λ w. WINDOW_CELLS < length (map spot_of graph.nodes) * w) windows (subst (λ ss. WINDOW_CELLS < length ss * other) same many) in
        omega (arith, few, here)

    -- It can be told of one agent,
    told_at : (agent : ℕ) → agent < length unit.agents → PassesAt agent ⊎ (PassesAt agent → ⊥)
    told_at agent less = elim (cases_Bool (sends_to ways agent stream)) [
      | inl c ↦ (
          let (graph, drawn) = graph_of agent less in
          elim (cases_lt WINDOW_CELLS (length (map spot_of graph.nodes) * window)) [
            | inl many ↦ inl (window, map spot_of graph.nodes, graph.edges, c, is, drawn.drawn, many)
            | inr few ↦ inr (small_table agent graph drawn few)
          ]
          )
      | inr none ↦ inr (λ (other, spots, edges, c, also, g, many). false≢true (sym none ∙ c))
    ]

    -- of one more,
    one_more : (agent : ℕ) → (PassesBefore agent → ⊥) → (PassesAt agent → ⊥) → PassesBefore (suc agent) → ⊥
    one_more agent before here (other, less, passes) = elim (cases_lt other agent) [
      | inl l ↦ before (other, l, passes)
      | inr l ↦ (let same : other ≡ agent = omega (arith, less, l) in here (subst PassesAt same passes))
    ]

    -- and of the agents before one.
    told_before : (agents : ℕ) → agents ≤ length unit.agents → PassesBefore agents ⊎ (PassesBefore agents → ⊥)
    told_before zero few = inr (λ (agent, less, passes). omega (arith, less))
    told_before (suc agent) few = elim (told_before agent (omega (arith, few))) [
      | inl (other, less, passes) ↦ inl (other, omega (arith, less), passes)
      | inr before ↦ elim (told_at agent (omega (arith, few))) [
        | inl passes ↦ inl (agent, omega arith, passes)
        | inr here ↦ inr (one_more agent before here)
      ]
    ]

    -- So it can be told of all.
    pub table_told : PassesTable unit ways nexts stream ⊎ (PassesTable unit ways nexts stream → ⊥)
    table_told = elim (told_before (length unit.agents) (omega arith)) [
      | inl (agent, less, (other, spots, edges, c, also, g, many)) ↦ inl (agent, other, spots, edges, less, c, also, g, many)
      | inr none ↦ inr (λ (agent, other, spots, edges, less, c, also, g, many). none (agent, less, (other, spots, edges, c, also, g, many)))
    ]
