-- The edges of the graphs of a system's agents.
use Rattle.std.proofs.Common.{◌≡◌, ℕ, ◌+◌, ◌-◌, ◌<◌, List, [], length, get_or, Some, refl, sym, ap, ◌∙◌, subst, arith}
use Rattle.std.specs.List.{Contains}
use Rattle.std.proofs.lemmas.Option.{slice_get-get_or, slice_get_within}
use Rattle.psy_base.specs.declared.edge.Edge.{Edge}
use Rattle.psy_history.specs.Actions.{Action, Done, System, timing}
use Rattle.std.specs.Prelude.{slice_get}
use Rattle.psy_meaning.specs.Graph.{IsEdgeOf, spot_at}
use Rattle.psy_meaning.specs.Timing.{end_date, following}
use Rattle.psy_history.specs.Asked.{Drawn, IsNode, IsStep}
use Rattle.psy_history.specs.Compiled.{AreEdgesOf}
use Rattle.psy_history.specs.Regular.{IsRegular, MayStartAlike}
use Rattle.psy_history.proofs.Deadlines.{deadline_least, some_follows}
use Rattle.psy_history.proofs.SamePhases.{due_alike, goes_alike, same_phase}

-- ---- graphs

pub drawn_of : (s : System) (graphs : List (List Edge)) → AreEdgesOf s graphs → (agent : ℕ) → agent < length s.unit.agents → Drawn s graphs agent
drawn_of s graphs are agent known =
    let at = slice_get-get_or graphs agent [] (omega (arith, known, are.count)) in
    let its = are.each agent (get_or graphs agent []) at in
    record { edges = get_or graphs agent []; at = at; spots = its.0; graph = its.1 }

pub drawn_within : (s : System) (graphs : List (List Edge)) (agent : ℕ) → Drawn s graphs agent → agent < length graphs
drawn_within s graphs agent g = slice_get_within graphs agent g.edges g.at

module _ (s : System) (graphs : List (List Edge)) (agent : ℕ) (g : Drawn s graphs agent) where
  pub node_of : (point start : ℕ) → MayStartAlike (timing s agent) point start → (node : ℕ) × IsNode s graphs agent g point start node
  node_of point start alike =
      let spot = spot_at g.graph.cycle point start in
      let (k, l, e) = (g.graph.nodes.all spot).1 (alike.met, alike.may, same_phase (timing s agent) point start alike g.graph.cycle g.graph.is_cycle) in
      (k, slice_get-get_or g.spots k spot l ∙ ap Some e)

  -- The node of an action is that of one that may start.
  node_alike : (point start : ℕ) (alike : MayStartAlike (timing s agent) point start) (node : ℕ) → IsNode s graphs agent g point start node → slice_get g.spots node ≡ Some (spot_at g.graph.cycle point alike.met)
  node_alike point start alike node at = at ∙ ap (λ phase. Some (record { point = point; phase = phase })) (same_phase (timing s agent) point start alike g.graph.cycle g.graph.is_cycle)

  -- An action has an edge to each node of a point that may follow its own: that of one that may start.
  pub step_to : (r : Action) → IsRegular s agent r → (to node : ℕ) → Contains (following (timing s agent) r.point) to → IsNode s graphs agent g to (end_date (timing s agent) r.start to) node → (e : Edge) × IsStep s graphs agent g r.point r.start to e × (e.to ≡ node)
  step_to r regular to node follows into =
      let t = timing s agent in
      let met = regular.starts.met in
      let from = node_of r.point r.start regular.starts in
      let late = deadline_least t r.point r.start to follows in
      let due = due_alike s agent r regular in
      let ends = regular.alike to follows in
      let e : Edge = record {
        from = from.0;
        to = node;
        len = end_date t r.start to - r.start;
        due = r.deadline - r.start;
        weight = r.budget;
      } in
      let edge : IsEdgeOf t g.graph.cycle g.spots r.point met to e = record {
        starts = regular.starts.may;
        follows = follows;
        from = node_alike r.point r.start regular.starts from.0 from.1;
        into = node_alike to (end_date t r.start to) (goes_alike s agent r regular to follows) node into;
        len = omega (arith, regular.due, regular.deadline, late, ends);
        due = omega (arith, regular.due, due);
        weight = regular.budget;
      } in (
        e,
        record {
          there = (g.graph.links.all e).1 (r.point, met, to, edge);
          follows = follows;
          from = from.1;
          into = into;
          len = omega (arith, regular.due, regular.deadline, late);
          due = omega (arith, regular.due, regular.deadline);
          weight = regular.budget;
        },
        refl,
      )

  -- So it has one.
  pub step_some : (r : Action) → IsRegular s agent r → (to : ℕ) × (e : Edge) × IsStep s graphs agent g r.point r.start to e
  step_some r regular =
      let t = timing s agent in
      let one = some_follows t r.point r.start (omega (arith, regular.due, regular.deadline)) in
      let into = node_of one.0 (end_date t r.start one.0) (goes_alike s agent r regular one.0 one.1) in
      let step = step_to r regular one.0 into.0 one.1 into.1 in
      (one.0, step.0, step.1)

  -- Where the action reached a point, it has an edge to each node of where the next one starts.
  pub step_done : (r : Action) → IsRegular s agent r → (point end node : ℕ) → r.verdict ≡ Done point end → IsNode s graphs agent g point end node → (e : Edge) × IsStep s graphs agent g r.point r.start point e × (e.to ≡ node) × (r.start + e.len ≡ end)
  step_done r regular point end node done into =
      let ends = regular.ends point end done in
      let step = step_to r regular point node ends.0 (subst (λ n. IsNode s graphs agent g point n node) ends.1 into) in
      (step.0, step.1, step.2, step.1.len ∙ sym ends.1)
