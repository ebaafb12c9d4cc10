-- What is known of how the actions of an agent begin and end: by the statements of a text, and by ways of any program.
use Rattle.std.proofs.Common.{◌≡◌, ℕ, ◌<◌, ◌≤◌, List, [], Some, length, get_or, arith}
use Rattle.std.specs.Prelude.{slice_get}
use Rattle.std.specs.List.{All}
use Rattle.std.proofs.lemmas.List.Elements.{Contains-get_or}
use Rattle.std.proofs.lemmas.Option.{slice_get-get_or}
use Rattle.psy_base.specs.declared.ways.Ways.{Ways}
use Rattle.psy_tree.specs.declared.unit.AgentDecl.{AgentDecl}
use Rattle.psy_tree.specs.declared.unit.Unit.{Unit as Whole}
use Rattle.psy_tree.specs.Parts.{agent_at, no_agent}
use Rattle.psy_meaning.specs.Flow.{AreNexts, IsNext}
use Rattle.psy_meaning.specs.ListedWays.{AreNextsFor, AreWaysFor}
use Rattle.psy_meaning.specs.RingSizes.{agent_timing}
use Rattle.psy_meaning.specs.Timing.{timing_of}
use Rattle.psy_meaning.specs.Units.{IsBare}
use Rattle.psy_meaning.proofs.lemmas.ByPoint.{agents_count, points_count}
use Rattle.psy_flow.specs.Agents.{IsAgentOf, IsKnown}
use Rattle.psy_graph.specs.Graphs.{IsTimed}
use Rattle.psy_graph.specs.Places.{IsList}
use Rattle.psy_graph.proofs.Timings.{timed_by}

module _ (unit : Whole) (number : ℕ) (agent : AgentDecl) (nexts : List (List ℕ)) (its : IsAgentOf unit number agent) (are : AreNexts unit.functions agent nexts) where
  pub timed : IsKnown unit number agent → ((point to : ℕ) → IsNext unit.functions agent point to → (1 ≤ to) × (to < length agent.points)) → IsTimed (timing_of unit agent nexts)
  timed known within = timed_by unit number agent nexts its.0.bare its.1 are.length are.rise lists
    where
      lists : All (IsList (length agent.points)) nexts
      lists point d less =
          let list = get_or nexts point d in
          let there = slice_get-get_or nexts point d less in
          let (to, next) = known.goes_on point in
          let (k, inside, is) = (are.each point list there to).1 next in
          (omega (arith, inside), λ i e here. within point (get_or list i e) ((are.each point list there (get_or list i e)).0 (Contains-get_or list i e here)))

module _ (unit : Whole) (ways : Ways) (bare : IsBare unit) (are : AreWaysFor unit ways) (number : ℕ) (less : number < length unit.agents) where
  abbrev nexts : List (List ℕ)
  nexts = get_or ways.nexts number []

  own : (point : ℕ) (list : List ℕ) → slice_get nexts point ≡ Some list → AreNextsFor (agent_at unit number) list
  own point list at =
      are.nexts.each number point nexts list (slice_get-get_or ways.nexts number [] (omega (arith, less, agents_count unit (λ agent point. AreNextsFor (agent_at unit agent)) ways.nexts are.nexts))) at

  pub timed_for : IsTimed (agent_timing unit ways.nexts number)
  timed_for =
      timed_by unit number (agent_at unit number) nexts bare (slice_get-get_or unit.agents number no_agent less)
      (points_count unit (λ agent point. AreNextsFor (agent_at unit agent)) ways.nexts are.nexts number less) (λ point list at. (own point list at).rise)
      (λ point d inside. let its = own point (get_or nexts point d) (slice_get-get_or nexts point d inside) in (omega (arith, its.some), its.known))
