-- The agents of a processor, among those of an order and with their edges.
use Rattle.std.proofs.Common.{◌≡◌, ℕ, zero, suc, ◌<◌, ◌≤◌, List, [], ◌∷◌, length, get_or, Some, refl, sym, ap, ◌∙◌, arith}
use Rattle.std.specs.Prelude.{◌-◌, ◌==◌, if◌then◌else◌, slice_get}
use Rattle.std.specs.List.{Contains, range_with_len}
use Rattle.std.proofs.lemmas.Bool.{eq-eqb, eqb-true}
use Rattle.std.proofs.lemmas.List.{length-map}
use Rattle.std.proofs.lemmas.List.Elements.{All-map, All-weaker}
use Rattle.std.proofs.lemmas.List.FromFn.{fill_by_all, get_or-map-range_with_len, length-range_with_len}
use Rattle.std.proofs.lemmas.Option.{get_or_from_slice_get, slice_get-get_or, slice_get_within}
use Rattle.psy_base.specs.declared.edge.Edge.{Edge}
use Rattle.psy_base.specs.declared.limits.TheConstants.{PROCESSORS}
use Rattle.psy_base.specs.Extremes.{most_of}
use Rattle.psy_lists.proofs.lemmas.Members.{filter_in, filter_from}
use Rattle.psy_tree.specs.declared.unit.AgentDecl.{AgentDecl}
use Rattle.psy_tree.specs.declared.unit.Unit.{Unit as Whole}
use Rattle.psy_tree.specs.Parts.{homes}
use Rattle.psy_meaning.specs.Demand.{edges_on}
use Rattle.psy_meaning.specs.Units.{IsBare, IsBareAgent}
use Rattle.psy_history.specs.Processors.{edges_for, processor_at, processors, served}
use Rattle.psy_history.proofs.HeldWindow.{most_below}

-- Nothing in a list is greater than the greatest.
most_at : (numbers : List ℕ) (k : ℕ) → get_or numbers k 0 ≤ most_of numbers
most_at [] k = omega arith
most_at (n ∷ numbers) zero = omega arith
most_at (n ∷ numbers) (suc k) = omega (arith, most_at numbers k)

-- Each agent is of a processor that the program has.
pub one_of_them : (unit : Whole) (agent : ℕ) → processor_at unit agent < processors unit
unfolding processor_at processors
one_of_them unit agent = omega (arith, most_at (homes unit) agent)

-- Each is one of those that there may be,
pub most_home : (unit : Whole) → IsBare unit → most_of (homes unit) < PROCESSORS
most_home unit bare =
    let each = All-weaker (IsBareAgent unit) (λ agent. agent.processor ≤ PROCESSORS - 1) (λ agent is. omega (arith, is.processor)) unit.agents bare.agents in
    omega (arith, most_below (homes unit) (PROCESSORS - 1) (All-map (λ n. n ≤ PROCESSORS - 1) (λ (agent : AgentDecl). agent.processor) unit.agents each))

-- There are no more of them than there may be.
pub few_of_them : (unit : Whole) → IsBare unit → processors unit ≤ PROCESSORS
unfolding processors
few_of_them unit bare = omega (arith, most_home unit bare)

-- Where there is one, all agents are of it.
pub processor_zero : (unit : Whole) → processors unit ≡ 1 → (agent : ℕ) → processor_at unit agent ≡ 0
processor_zero unit one agent = omega (arith, one_of_them unit agent, one)

module _ (unit : Whole) (processor : ℕ) where
  pub served_in : (order : List ℕ) (agent : ℕ) → processor_at unit agent ≡ processor → Contains order agent → Contains (served unit processor order) agent
  served_in order agent of c = filter_in (λ a. processor_at unit a == processor) order agent c (eq-eqb (processor_at unit agent) processor of)

  pub served_from : (order : List ℕ) (agent : ℕ) → Contains (served unit processor order) agent → Contains order agent × (processor_at unit agent ≡ processor)
  served_from order agent c =
      let (there, its) = filter_from (λ a. processor_at unit a == processor) order agent c in
      (there, eqb-true (processor_at unit agent) processor its)

  -- ---- edges

  abbrev own_edges : List (List Edge) → ℕ → List Edge
  own_edges graphs agent = if processor_at unit agent == processor then get_or graphs agent [] else []

  pub edges_count : (graphs : List (List Edge)) → length (edges_for unit processor graphs) ≡ length graphs
  edges_count graphs = length-map (range_with_len 0 (length graphs)) (own_edges graphs) ∙ length-range_with_len 0 (length graphs)

  pub edges_own : (graphs : List (List Edge)) (agent : ℕ) (edges : List Edge) → processor_at unit agent ≡ processor → slice_get graphs agent ≡ Some edges → slice_get (edges_for unit processor graphs) agent ≡ Some edges
  edges_own graphs agent edges of at =
      let within = slice_get_within graphs agent edges at in
      let there = get_or-map-range_with_len (own_edges graphs) 0 (length graphs) agent agent [] within (omega arith) in
      let mine : own_edges graphs agent ≡ edges = rw (eq-eqb (processor_at unit agent) processor of) (get_or_from_slice_get graphs agent edges [] at) in
      slice_get-get_or (edges_for unit processor graphs) agent [] (omega (arith, within, edges_count graphs)) ∙ ap Some (there ∙ mine)

-- Where all agents are of one processor, it serves all of an order.
pub served_all : (unit : Whole) (processor : ℕ) (order : List ℕ) → ((agent : ℕ) → processor_at unit agent ≡ processor) → served unit processor order ≡ order
served_all unit processor [] one = refl
served_all unit processor (agent ∷ order) one =
    rw (eq-eqb (processor_at unit agent) processor (one agent)) (ap (λ rest. agent ∷ rest) (served_all unit processor order one))

-- They are told by the numbers of the agents' processors alone.
pub edges_by_homes : (unit : Whole) (processor : ℕ) (graphs : List (List Edge)) → edges_for unit processor graphs ≡ edges_on (homes unit) processor graphs
unfolding processor_at
edges_by_homes unit processor graphs = refl

-- Where all agents are of one processor, it has all edges.
pub edges_all : (unit : Whole) (processor : ℕ) (graphs : List (List Edge)) → ((agent : ℕ) → processor_at unit agent ≡ processor) → edges_for unit processor graphs ≡ graphs
edges_all unit processor graphs one =
    sym (fill_by_all (own_edges unit processor graphs) graphs (length graphs) [] refl (λ agent within. rw (eq-eqb (processor_at unit agent) processor (one agent)) refl))
