-- Where an agent may start an action alike at a date, a node of its graph has the point and the phase of the date.
use Rattle.std.proofs.Common.{◌≡◌, ◌∙◌, ℕ, ◌+◌, ◌*◌, ◌/◌, ◌%◌, ◌<◌, ◌⊎◌, inl, inr, eqb, true, ◌&&◌, List, length, get_or, refl, sym, ap, arith}
use Rattle.std.specs.Int.{◌∣◌}
use Rattle.std.proofs.Math.Nat.{add-mul-mod_self_right, div-add-mod', mod-mod_of_dvd}
use Rattle.std.proofs.lemmas.Bool.{and_from, eq-eqb}
use Rattle.std.proofs.lemmas.List.Folds.{list_any-from_Any}
use Rattle.std.proofs.lemmas.List.Sums.{list_all-from_AllPass}
use Rattle.std.proofs.lemmas.Nat.Gcd.{mod-eq-zero_of_dvd}
use Rattle.std.proofs.lemmas.Option.{slice_get-get_or}
use Rattle.psy_dates.specs.declared.plan.Plan.{Plan}
use Rattle.psy_graph.specs.declared.graph.Graph.{Graph}
use Rattle.psy_graph.specs.declared.graph.Node.{Node}
use Rattle.psy_graph.specs.Graphs.{AreGraphsBy, IsGraphOf, IsTimed, spot_of}
use Rattle.psy_graph.proofs.lemmas.MayStarts.{may_point}
use Rattle.psy_history.specs.Regular.{MayStartAlike}
use Rattle.psy_lists.proofs.lemmas.Members.{map_contains}
use Rattle.psy_meaning.specs.Graph.{Spot, periods}
use Rattle.psy_meaning.specs.RingSizes.{agent_timing}
use Rattle.psy_meaning.specs.Timing.{Timing}
use Rattle.psy_snap.specs.Forms.{agent_form, is_node, is_phase, may_start, no_graph}

whole_periods : (p apart : ℕ) → p ∣ apart → apart ≡ apart / p * p
whole_periods p apart whole = omega (arith, div-add-mod' apart p, mod-eq-zero_of_dvd p whole)

behind_whole : (p met apart : ℕ) → p ∣ apart → (met + apart) % p ≡ met % p
behind_whole p met apart whole = ap (λ n. (met + n) % p) (whole_periods p apart whole) ∙ add-mul-mod_self_right met (apart / p) p

-- Dates that lie whole periods apart leave the same remainder.
one_phase : (p date met apart : ℕ) → p ∣ apart → (date ≡ met + apart) ⊎ (met ≡ date + apart) → date % p ≡ met % p
one_phase p date met apart whole far = elim far [
  | inl later ↦ ap (λ n. n % p) later ∙ behind_whole p met apart whole
  | inr earlier ↦ sym (ap (λ n. n % p) earlier ∙ behind_whole p date apart whole)
]

node_met : (timing : Timing) (graph : Graph) → IsGraphOf timing graph → (point date : ℕ) → MayStartAlike timing point date → is_node (periods timing) graph.nodes point date ≡ true
node_met timing graph is point date alike =
    let cycle : ℕ = is.drawn.cycle in
    let spot : Spot = record { point = point; phase = alike.met % cycle } in
    let (node, (k, less, at), same) = map_contains spot_of graph.nodes spot ((is.drawn.nodes.all spot).1 (alike.met, alike.may, refl)) in
    let point_is : node.point ≡ point = ap (λ (s : Spot). s.point) same in
    let phase_is : node.phase ≡ alike.met % cycle = ap (λ (s : Spot). s.phase) same in
    let phases : is_phase (periods timing) date node.phase ≡ true = list_all-from_AllPass (λ p. eqb (date % p) (node.phase % p)) (periods timing) (λ i d within.
    let p : ℕ = get_or (periods timing) i d in
    eq-eqb (date % p) (node.phase % p)
    (one_phase p date alike.met alike.apart (alike.whole i d within) alike.far
    ∙ sym (mod-mod_of_dvd p alike.met (is.drawn.is_cycle.common i d within)) ∙ ap (λ n. n % p) (sym phase_is))) in
    list_any-from_Any (λ (node : Node). eqb node.point point && is_phase (periods timing) date node.phase) graph.nodes
    (k, node, less, at, and_from (eqb node.point point) (is_phase (periods timing) date node.phase) (eq-eqb node.point point point_is) phases)

-- It is a point of the agent.
pub point_known : (timing : Timing) → IsTimed timing → (point date : ℕ) → MayStartAlike timing point date → point < length timing.points
point_known timing timed point date alike = may_point timing timed point alike.met alike.may

module _ (plan : Plan) (graphs : List Graph) (drawn : AreGraphsBy plan.unit plan.nexts graphs) where
  pub may_met : (agent point date : ℕ) → agent < length plan.unit.agents → MayStartAlike (agent_timing plan.unit plan.nexts agent) point date
      → may_start (agent_form plan graphs agent) point date ≡ true
  unfolding agent_form
  may_met agent point date less alike =
      node_met (agent_timing plan.unit plan.nexts agent) (get_or graphs agent no_graph)
      (drawn.each agent (get_or graphs agent no_graph) (slice_get-get_or graphs agent no_graph (omega (arith, less, drawn.count)))).0 point date alike
