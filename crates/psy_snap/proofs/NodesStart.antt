-- Where a node of its graph has the point and the phase of a date, an agent may start an action alike there.
use Rattle.std.proofs.Common.{◌≡◌, ◌∙◌, ℕ, ◌+◌, ◌-◌, ◌*◌, ◌/◌, ◌%◌, ◌<◌, inl, inr, eqb, true, ◌&&◌, List, length, get_or, eqb-true, sym, ap, subst, arith}
use Rattle.std.specs.Int.{◌∣◌}
use Rattle.std.proofs.Math.Nat.{div-add-mod', dvd-mul_left, dvd-sub, mod-mod_of_dvd}
use Rattle.std.proofs.lemmas.Bool.{cases_lt}
use Rattle.std.proofs.lemmas.List.Folds.{Any-from_list_any}
use Rattle.std.proofs.lemmas.Nat.Gcd.{dvd-zero}
use Rattle.std.proofs.lemmas.Option.{slice_get-get_or}
use Rattle.psy_dates.specs.declared.plan.Plan.{Plan}
use Rattle.psy_graph.specs.declared.graph.Graph.{Graph}
use Rattle.psy_graph.specs.declared.graph.Node.{Node}
use Rattle.psy_graph.specs.Graphs.{AreGraphsBy, IsGraphOf, spot_of}
use Rattle.psy_history.specs.Regular.{MayStartAlike}
use Rattle.psy_lists.proofs.lemmas.Members.{all_members, contains_map}
use Rattle.psy_lists.proofs.lemmas.Searches.{all_at}
use Rattle.psy_lists.proofs.lemmas.Tests.{each_of_both}
use Rattle.psy_meaning.specs.Graph.{periods}
use Rattle.psy_meaning.specs.RingSizes.{agent_timing}
use Rattle.psy_meaning.specs.Timing.{MayStart, Timing, first, first_date}
use Rattle.psy_snap.specs.Forms.{agent_form, is_node, is_phase, may_start, no_graph}

difference : (x y r s a b : ℕ) → x + r ≡ a → y + s ≡ b → r ≡ s → x - y ≡ a - b
difference x y r s a b one other same = omega (arith, one, other, same)

-- The difference of two numbers with the same remainder
divides_apart : (p a b : ℕ) → a % p ≡ b % p → p ∣ a - b
divides_apart p a b same =
    subst (λ n. p ∣ n) (difference (a / p * p) (b / p * p) (a % p) (b % p) a b (div-add-mod' a p) (div-add-mod' b p) same)
    (dvd-sub p (dvd-mul_left p (a / p)) (dvd-mul_left p (b / p)))

module _ (timing : Timing) (point date start : ℕ) (may : MayStart timing point start) (same : (i d : ℕ) → i < length (periods timing) → date % get_or (periods timing) i d ≡ start % get_or (periods timing) i d) where
  alike : MayStartAlike timing point date
  alike = elim (cases_lt date start) [
    | inl less ↦ record {
      met = start;
      may = may;
      apart = start - date;
      whole = λ i d there. divides_apart (get_or (periods timing) i d) start date (sym (same i d there));
      far = inr (omega (arith, less));
    }
    | inr le ↦ record {
      met = start;
      may = may;
      apart = date - start;
      whole = λ i d there. divides_apart (get_or (periods timing) i d) date start (same i d there);
      far = inl (omega (arith, le));
    }
  ]

-- So does the first date of an agent.
pub first_alike : (timing : Timing) → MayStartAlike timing 0 (first_date timing)
first_alike timing = record {
  met = first_date timing;
  may = first;
  apart = 0;
  whole = all_members (λ period. period ∣ 0) (periods timing) (λ period c. dvd-zero period);
  far = inl (omega arith);
}

node_alike : (timing : Timing) (graph : Graph) → IsGraphOf timing graph → (point date : ℕ) → is_node (periods timing) graph.nodes point date ≡ true → MayStartAlike timing point date
node_alike timing graph is point date there =
    let (k, node, less, at, passes) = Any-from_list_any (λ (node : Node). eqb node.point point && is_phase (periods timing) date node.phase) graph.nodes there in
    let (point_is, phase_is) = each_of_both (eqb node.point point) (is_phase (periods timing) date node.phase) passes in
    let cycle : ℕ = is.drawn.cycle in
    let (start, may, phase) = (is.drawn.nodes.all (spot_of node)).0 (contains_map spot_of graph.nodes node (k, less, at)) in
    alike timing point date start (subst (λ p. MayStart timing p start) (eqb-true _ _ point_is) may) (λ i d within.
    let p : ℕ = get_or (periods timing) i d in
    eqb-true _ _ (all_at (λ p. eqb (date % p) (node.phase % p)) (periods timing) i d within phase_is)
    ∙ ap (λ n. n % p) phase ∙ mod-mod_of_dvd p start (is.drawn.is_cycle.common i d within))

module _ (plan : Plan) (graphs : List Graph) (drawn : AreGraphsBy plan.unit plan.nexts graphs) where
  -- A node of the agent's form
  pub may_alike : (agent point date : ℕ) → agent < length plan.unit.agents → may_start (agent_form plan graphs agent) point date ≡ true
      → MayStartAlike (agent_timing plan.unit plan.nexts agent) point date
  unfolding agent_form
  may_alike agent point date less there =
      node_alike (agent_timing plan.unit plan.nexts agent) (get_or graphs agent no_graph)
      (drawn.each agent (get_or graphs agent no_graph) (slice_get-get_or graphs agent no_graph (omega (arith, less, drawn.count)))).0 point date there
