-- What an image's agents need, by the ways of its code, is what the program needs from which it was built.
use Rattle.std.proofs.Common.{inl, inr, subst, ℕ, List}
use Rattle.psy_base.specs.declared.sizes.Sizes.{Sizes}
use Rattle.psy_base.specs.declared.ways.Ways.{Ways}
use Rattle.psy_demand.specs.Criterion.{edges_of}
use Rattle.psy_graph.specs.declared.fault.GraphFault.{GraphFault}
use Rattle.psy_graph.specs.declared.fault.GraphFault.TheVariants as at_graph
use Rattle.psy_graph.specs.declared.graph.Graph.{Graph}
use Rattle.psy_graph.specs.Graphs.{AreGraphs, AreGraphsBy, IsCause, IsCauseBy}
use Rattle.psy_image.specs.Answers.{emptied}
use Rattle.psy_meaning.specs.BufferSizes.{AreSizes}
use Rattle.psy_meaning.specs.Demand.{AreFeasible, IsOverloadOn}
use Rattle.psy_meaning.specs.Flow.{AreAllNexts}
use Rattle.psy_meaning.specs.KnownWays.{Listed, OfText}
use Rattle.psy_plan.specs.Courses.{in_row}
use Rattle.psy_plan.specs.declared.extent.Extent.{Extent}
use Rattle.psy_plan.specs.declared.refusal.Refusal.{Refusal}
use Rattle.psy_plan.specs.declared.refusal.Refusal.TheVariants.{Cells, Edges, Infeasible, Nodes, Queue, Ring}
use Rattle.psy_plan.specs.Extents.{IsExtent, length_of}
use Rattle.psy_plan.specs.Steps.{IsOverloaded, IsUndrawn, IsUndrawnBy, IsUnsizedBy}
use Rattle.psy_plan.specs.Supplies.{Supply, supplying, supplying_by}
use Rattle.psy_rate.specs.declared.line.Rate.{Rate}
use Rattle.psy_sizes.specs.declared.fault.SizeFault.{SizeFault}
use Rattle.psy_sizes.specs.declared.fault.SizeFault.TheVariants as at_size
use Rattle.psy_sizes.specs.Faults.{CanCount, IsFaultBy}
use Rattle.psy_tree.specs.Parts.{homes}
use Rattle.psy_tree.specs.declared.unit.Unit.{Unit as Whole}
use Rattle.psy_same.proofs.Emptied.{same_homes, same_plain}
use Rattle.psy_same.proofs.Graphs.{same_causes, same_graphs}
use Rattle.psy_same.proofs.Sizes.{same_counting, same_faults, same_sizes}

-- What the laws say of a program and of the lists of its ways: by the lists all is as by its statements.
pub record AreStated (unit : Whole) (ways : Ways) : Type 0 where
  pub followed : AreAllNexts unit ways.nexts
  pub graphs : (graphs : List Graph) → AreGraphsBy unit ways.nexts graphs → AreGraphs unit graphs
  pub causes : (fault : GraphFault) → IsCauseBy unit ways.nexts fault → IsCause unit fault
  pub sizes : (sizes : Sizes) → AreSizes unit (Listed ways) ways.nexts sizes → AreSizes unit (OfText unit) ways.nexts sizes
  pub counted : CanCount unit (Listed ways) ways.nexts → CanCount unit (OfText unit) ways.nexts
  pub faults : (fault : SizeFault) → IsFaultBy unit (Listed ways) ways.nexts fault → IsFaultBy unit (OfText unit) ways.nexts fault

module _ (unit : Whole) (ways : Ways) (until : ℕ) (stated : AreStated unit ways) where
  -- ---- step by step

  drawn_alike : (graphs : List Graph) → AreGraphsBy (emptied unit) ways.nexts graphs → AreGraphs unit graphs
  drawn_alike graphs are = stated.graphs graphs (same_graphs unit ways.nexts graphs are)

  undrawn_alike : (refusal : Refusal) → IsUndrawnBy (emptied unit) ways.nexts refusal → IsUndrawn unit refusal
  undrawn_alike Nodes (agent, cause) = (agent, stated.causes (at_graph.Nodes agent) (same_causes unit ways.nexts (at_graph.Nodes agent) cause))
  undrawn_alike Edges (agent, cause) = (agent, stated.causes (at_graph.Edges agent) (same_causes unit ways.nexts (at_graph.Edges agent) cause))
  undrawn_alike _ never = absurd never

  sized_alike : (sizes : Sizes) → AreSizes (emptied unit) (Listed ways) ways.nexts sizes → AreSizes unit (OfText unit) ways.nexts sizes
  sized_alike sizes are = stated.sizes sizes (same_sizes ways ways.nexts (emptied unit) unit (same_plain unit ways.nexts) sizes are)

  counted_alike : CanCount (emptied unit) (Listed ways) ways.nexts → CanCount unit (OfText unit) ways.nexts
  counted_alike can = stated.counted (same_counting ways ways.nexts (emptied unit) unit (same_plain unit ways.nexts) can)

  fault_alike : (fault : SizeFault) → IsFaultBy (emptied unit) (Listed ways) ways.nexts fault → IsFaultBy unit (OfText unit) ways.nexts fault
  fault_alike fault is = stated.faults fault (same_faults ways ways.nexts (emptied unit) unit (same_plain unit ways.nexts) fault is)

  unsized_alike : (refusal : Refusal) → IsUnsizedBy (emptied unit) (Listed ways) ways.nexts refusal → IsUnsizedBy unit (OfText unit) ways.nexts refusal
  unsized_alike Ring (variable, is) = (variable, fault_alike (at_size.LargeRing variable) is)
  unsized_alike Cells (stream, is) = (stream, fault_alike (at_size.Cells stream) is)
  unsized_alike Queue (stream, is) = (stream, fault_alike (at_size.LargeQueue stream) is)
  unsized_alike _ never = absurd never

  extent_alike : (lines : List Rate) (extent : Extent) → IsExtent unit.quantum (homes (emptied unit)) lines until extent
      → IsExtent unit.quantum (homes unit) lines until extent
  extent_alike lines extent = subst (λ own. IsExtent unit.quantum own lines until extent) (same_homes unit)

  feasible_alike : (graphs : List Graph) (top : ℕ) → AreFeasible (homes (emptied unit)) (edges_of graphs) unit.quantum top
      → AreFeasible (homes unit) (edges_of graphs) unit.quantum top
  feasible_alike graphs top = subst (λ own. AreFeasible own (edges_of graphs) unit.quantum top) (same_homes unit)

  overload_alike : (graphs : List Graph) (top : ℕ) (refusal : Refusal) → IsOverloaded (emptied unit) graphs top refusal → IsOverloaded unit graphs top refusal
  overload_alike graphs top (Infeasible length demand supply processor) (over, is) =
      (subst (λ own. IsOverloadOn own (edges_of graphs) unit.quantum top length processor demand) (same_homes unit) over, is)
  overload_alike graphs top _ never = absurd never

  -- ---- in a row

  pub supplied_alike : (supply : Supply) → (supplying_by (emptied unit) ways until).gives supply → (supplying unit until).gives supply
  unfolding in_row
  supplied_alike supply (graphs, drawn, (sizes, (sized, can), (lines, rated, (extent, far, (one, has, (two, feasible, is)))))) = (
    graphs,
    drawn_alike graphs drawn,
    (
      ways.nexts,
      stated.followed,
      (
        sizes,
        (sized_alike sizes sized, counted_alike can),
        (
          lines,
          rated,
          (extent, extent_alike lines extent far, (one, has, (two, feasible_alike graphs (length_of extent) feasible, is))),
        ),
      ),
    ),
  )

  pub unsupplied_alike : (refusal : Refusal) → (supplying_by (emptied unit) ways until).stops refusal → (supplying unit until).stops refusal
  unfolding in_row
  unsupplied_alike refusal (inl undrawn) = inl (undrawn_alike refusal undrawn)
  unsupplied_alike refusal (inr (graphs, drawn, inl unsized)) =
      inr (graphs, drawn_alike graphs drawn, inr (ways.nexts, stated.followed, inl (unsized_alike refusal unsized)))
  unsupplied_alike refusal (inr (graphs, drawn, inr (sizes, sized, inl never))) = absurd never
  unsupplied_alike refusal (inr (graphs, drawn, inr (sizes, sized, inr (lines, rated, inl never)))) = absurd never
  unsupplied_alike refusal (inr (graphs, drawn, inr (sizes, (sized, can), inr (lines, rated, inr (extent, far, behind))))) =
      inr (
        graphs,
        drawn_alike graphs drawn,
        inr (
          ways.nexts,
          stated.followed,
          inr (
            sizes,
            (sized_alike sizes sized, counted_alike can),
            inr (
              lines,
              rated,
              inr (
                extent,
                extent_alike lines extent far,
                elim behind [
                  | inl many ↦ inl many
                  | inr (one, has, inl overloaded) ↦ inr (one, has, inl (overload_alike graphs (length_of extent) refusal overloaded))
                  | inr (one, has, inr (two, feasible, never)) ↦ absurd never
                ],
              ),
            ),
          ),
        ),
      )
