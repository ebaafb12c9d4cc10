-- What a program needs by given ways of its actions is one thing at most, or one refusal, and not both.
use Rattle.std.proofs.Common.{◌≡◌, ◌∙◌, sym, subst, ap, refl, ℕ, ◌<◌, List, [], length, ◌⊎◌, inl, inr, arith}
use Rattle.std.proofs.lemmas.Option.{slice_get-get_or}
use Rattle.psy_base.specs.declared.edge.Edge.{Edge}
use Rattle.psy_base.specs.declared.sizes.Sizes.{Sizes}
use Rattle.psy_base.specs.declared.ways.Ways.{Ways as WayLists}
use Rattle.psy_demand.specs.Criterion.{edges_of}
use Rattle.psy_graph.proofs.lemmas.Unique.{graphs_same, one_passed, small_passes_no_edges, small_passes_no_nodes}
use Rattle.psy_graph.specs.declared.graph.Graph.{Graph}
use Rattle.psy_graph.specs.Graphs.{AreGraphsBy, HasGraphBy, HaveGraphsBeforeBy}
use Rattle.psy_lists.proofs.lemmas.Places.{same_lists}
use Rattle.psy_meaning.specs.BufferSizes.{AreSizes}
use Rattle.psy_meaning.specs.Graph.{PassesEdges, PassesNodes}
use Rattle.psy_meaning.specs.KnownWays.{Listed}
use Rattle.psy_meaning.specs.ListedWays.{AreWaysFor}
use Rattle.psy_meaning.specs.RingSizes.{agent_timing}
use Rattle.psy_meaning.specs.Units.{IsBare}
use Rattle.psy_rate.specs.declared.line.Rate.{Rate}
use Rattle.psy_rate.specs.Lines.{IsRateOf}
use Rattle.psy_sizes.specs.declared.fault.SizeFault.{SizeFault}
use Rattle.psy_sizes.specs.Faults.{CanCount, IsFaultBy}
use Rattle.psy_tree.specs.Parts.{homes}
use Rattle.psy_tree.specs.declared.unit.Unit.{Unit as Whole}
use Rattle.psy_plan.specs.declared.refusal.Refusal.{Refusal}
use Rattle.psy_plan.specs.declared.refusal.Refusal.TheVariants.{Edges, Nodes}
use Rattle.psy_plan.specs.Courses.{IsOne, step}
use Rattle.psy_plan.specs.Extents.{length_of}
use Rattle.psy_plan.specs.Steps.{IsUndrawnBy, extending, graphing_by, rating, sizing_by}
use Rattle.psy_plan.specs.Supplies.{supplying_by}
use Rattle.psy_plan.proofs.Courses.{one_pure, one_then}
use Rattle.psy_plan.proofs.DecidedPlans.{decided_windowing, one_demanding, one_extent, one_lines}
use Rattle.psy_plan.proofs.ExtentLemmas.{OneHorizon}
use Rattle.psy_plan.proofs.RefusalLemmas.{unsized_by, unsized_is}

-- ---- graphs

module _ (unit : Whole) (nexts : List (List (List ℕ))) where
  same_graphs : (graphs others : List Graph) → AreGraphsBy unit nexts graphs → AreGraphsBy unit nexts others → graphs ≡ others
  same_graphs graphs others a b = same_lists graphs others (a.count ∙ sym b.count) (λ number g h at there.
      graphs_same (agent_timing unit nexts number) g h (a.each number g at).0 (b.each number h there).0)

  -- An agent with a graph passes no limit.
  passes_none : (number : ℕ) (graph : Graph) → HasGraphBy unit nexts number graph → PassesNodes (agent_timing unit nexts number) ⊎ PassesEdges (agent_timing unit nexts number) → ⊥
  passes_none number graph (drawn, small) (inl passes) = small_passes_no_nodes (agent_timing unit nexts number) graph drawn small passes
  passes_none number graph (drawn, small) (inr passes) = small_passes_no_edges (agent_timing unit nexts number) graph drawn small passes

  -- The first agent that passes one
  record IsFirst (number : ℕ) : Type 0 where
    before : HaveGraphsBeforeBy unit nexts number
    known : number < length unit.agents
    passes : PassesNodes (agent_timing unit nexts number) ⊎ PassesEdges (agent_timing unit nexts number)

  not_before : (number other : ℕ) → IsFirst number → IsFirst other → number < other → ⊥
  not_before number other this that less = let (graph, has) = that.before number less in passes_none number graph has this.passes

  one_first : (number other : ℕ) → IsFirst number → IsFirst other → number ≡ other
  one_first number other a b = grind (arith, not_before number other a b, not_before other number b a)

  -- What a refusal tells of it
  record IsToldFirst (refusal : Refusal) : Type 0 where
    agent : ℕ
    first : IsFirst agent
    which : ((refusal ≡ Nodes) × PassesNodes (agent_timing unit nexts agent)) ⊎ ((refusal ≡ Edges) × PassesEdges (agent_timing unit nexts agent))

  undrawn_first : (refusal : Refusal) → IsUndrawnBy unit nexts refusal → IsToldFirst refusal
  undrawn_first Nodes (agent, (before, known, passes)) = record { agent = agent; first = record { before = before; known = known; passes = inl passes }; which = inl (refl, passes) }
  undrawn_first Edges (agent, (before, known, passes)) = record { agent = agent; first = record { before = before; known = known; passes = inr passes }; which = inr (refl, passes) }
  undrawn_first _ never = absurd never

  one_refusal : (r s : Refusal) → IsToldFirst r → IsToldFirst s → r ≡ s
  one_refusal r s a b =
      let same : b.agent ≡ a.agent = one_first b.agent a.agent b.first a.first in
      elim a.which [
        | inl (is, nodes) ↦ elim b.which [
          | inl (also, more) ↦ is ∙ sym also
          | inr (also, edges) ↦ absurd (one_passed (agent_timing unit nexts a.agent) nodes (subst (λ n. PassesEdges (agent_timing unit nexts n)) same edges))
        ]
        | inr (is, edges) ↦ elim b.which [
          | inl (also, nodes) ↦ absurd (one_passed (agent_timing unit nexts a.agent) (subst (λ n. PassesNodes (agent_timing unit nexts n)) same nodes) edges)
          | inr (also, more) ↦ is ∙ sym also
        ]
      ]

  drawn_apart : (graphs : List Graph) (refusal : Refusal) → AreGraphsBy unit nexts graphs → IsToldFirst refusal → ⊥
  drawn_apart graphs refusal are told =
      let none : Graph = record { nodes = []; edges = [] } in
      let known = told.first.known in
      passes_none told.agent _ (are.each told.agent _ (slice_get-get_or graphs told.agent none (omega (arith, known, are.count)))) told.first.passes

  one_graphing : IsOne (graphing_by unit nexts)
  one_graphing = record {
    gift = same_graphs;
    stop = λ r s p q. one_refusal r s (undrawn_first r p) (undrawn_first s q);
    apart = λ graphs r p q. drawn_apart graphs r p (undrawn_first r q);
  }

-- ---- what the laws say of the other steps

pub record WaysDecide : Type 0 where
  pub sizes : (unit : Whole) (ways : WayLists) (graphs : List Graph) (sizes others : Sizes) → IsBare unit → AreWaysFor unit ways → AreGraphsBy unit ways.nexts graphs → AreSizes unit (Listed ways) ways.nexts sizes → AreSizes unit (Listed ways) ways.nexts others → sizes ≡ others
  pub sizes_not_fault : (unit : Whole) (ways : WayLists) (graphs : List Graph) (sizes : Sizes) (fault : SizeFault) → IsBare unit → AreWaysFor unit ways → AreGraphsBy unit ways.nexts graphs → AreSizes unit (Listed ways) ways.nexts sizes → CanCount unit (Listed ways) ways.nexts
      → IsFaultBy unit (Listed ways) ways.nexts fault → ⊥
  pub fault : (unit : Whole) (ways : WayLists) (graphs : List Graph) (fault other : SizeFault) → IsBare unit → AreWaysFor unit ways → AreGraphsBy unit ways.nexts graphs → IsFaultBy unit (Listed ways) ways.nexts fault → IsFaultBy unit (Listed ways) ways.nexts other → fault ≡ other
  pub line : (graph : List Edge) (line other : Rate) → IsRateOf graph line → IsRateOf graph other → line ≡ other
  pub horizon : OneHorizon

-- A step that never stops
one_given : {X : Type 0} (Gives : X → Type 0) → ((x y : X) → Gives x → Gives y → x ≡ y) → IsOne (step Gives (λ refusal. ⊥))
one_given Gives same = record { gift = same; stop = λ r s p q. absurd p; apart = λ x r p q. q }

module _ (laws : WaysDecide) (unit : Whole) (ways : WayLists) (until : ℕ) (bare : IsBare unit) (are : AreWaysFor unit ways) where
  one_sizing : (graphs : List Graph) → AreGraphsBy unit ways.nexts graphs → IsOne (sizing_by unit (Listed ways) ways.nexts)
  one_sizing graphs drawn = record {
    gift = λ x y p q. laws.sizes unit ways graphs x y bare are drawn p.0 q.0;
    stop = λ r s p q.
        let (cause, is, it) = unsized_is unit (Listed ways) ways.nexts r p in
        let (other, also, that) = unsized_is unit (Listed ways) ways.nexts s q in
        is ∙ ap unsized_by (laws.fault unit ways graphs cause other bare are drawn it that) ∙ sym also;
    apart = λ x r p q. let (cause, is, it) = unsized_is unit (Listed ways) ways.nexts r q in laws.sizes_not_fault unit ways graphs x cause bare are drawn p.0 p.1 it;
  }

  pub one_supplying_by : IsOne (supplying_by unit ways until)
  one_supplying_by = one_then _ _ (one_graphing unit ways.nexts) (λ graphs drawn.
      one_then _ _ (one_sizing graphs drawn) (λ sizes sized.
      one_then (rating graphs) _ (one_given _ (one_lines laws.line (edges_of graphs))) (λ lines rated.
      one_then (extending unit lines until) _ (one_given _ (one_extent laws.horizon unit.quantum until (homes unit) lines)) (λ extent looked.
      one_then _ _ (decided_windowing graphs (length_of extent)).one (λ few held.
      one_then _ _ (one_demanding unit graphs (length_of extent)) (λ done feasible.
      one_pure (record { graphs = graphs; nexts = ways.nexts; sizes = sizes; lines = lines; extent = extent })))))))
