-- The edge of an action weighs no less than what the action sends to a stream.
use Rattle.std.proofs.Common.{◌≡◌, ℕ, suc, ◌+◌, ◌-◌, ◌≤◌, List, replicate, Some, sym, ap, ◌∙◌, arith}
use Rattle.std.specs.Prelude.{slice_get}
use Rattle.std.specs.List.{Contains}
use Rattle.std.proofs.lemmas.List.{get_or-replicate, length-replicate}
use Rattle.std.proofs.lemmas.Option.{slice_get_read}
use Rattle.psy_base.specs.declared.edge.Edge.{Edge}
use Rattle.psy_base.specs.declared.limits.TheConstants.{QUEUE}
use Rattle.psy_base.specs.Paths.{FitsFirstFree, IsGreatestWeight}
use Rattle.psy_history.specs.Actions.{Action, Done, System, timing}
use Rattle.psy_meaning.specs.Graph.{Spot, IsGraph, spot_at}
use Rattle.psy_meaning.specs.Timing.{end_date, following}
use Rattle.psy_history.specs.Asked.{Drawn}
use Rattle.psy_history.specs.Regular.{IsRegular, MayStartAlike}
use Rattle.psy_meaning.specs.KnownWays.{HasMost, Ways}
use Rattle.psy_history.specs.Ways.{SendsAtMost, sends_in}
use Rattle.psy_meaning.specs.QueueSizes.{AreSendEdges}
use Rattle.psy_history.proofs.Edges.{node_of, step_done, step_to}
use Rattle.psy_history.proofs.SamePhases.{goes_alike}
use Rattle.psy_history.proofs.SendEdges.{sent_edge, single_weight, uncut}

-- How many messages an action sends to a stream
abbrev pub sends_to : ℕ → Action → ℕ
sends_to stream r = sends_in stream r.deeds.sends

-- Where an action reaches a point, it sends no more than on a way from its point.
abbrev pub SendsByWay : Ways → ℕ → Action → Type 0
SendsByWay ways agent r = (point end : ℕ) → r.verdict ≡ Done point end → SendsAtMost ways agent r.point point r.deeds.sends

module _ (s : System) (ways : Ways) (agent stream : ℕ) (spots : List Spot) (edges sent : List Edge) (graph : IsGraph (timing s agent) spots edges) (sends : AreSendEdges ways agent stream spots edges sent) where
  -- The node of this number is that of a point and a date.
  abbrev pub IsNodeAt : ℕ → ℕ → ℕ → Type 0
  IsNodeAt point start node = slice_get spots node ≡ Some (spot_at graph.cycle point start)

  -- graphs of which the agent's is this one
  abbrev graphs : List (List Edge)
  graphs = replicate (suc agent) edges

  abbrev drawn : Drawn s graphs agent
  drawn = record {
    edges = edges;
    at = slice_get_read graphs (suc agent) agent edges (sym (length-replicate (suc agent) edges)) (omega arith) (sym (get_or-replicate (suc agent) agent edges edges (omega arith)));
    spots = spots;
    graph = graph;
  }

  -- Where an action may start, there is a node.
  pub node_at : (point start : ℕ) → MayStartAlike (timing s agent) point start → (node : ℕ) × IsNodeAt point start node
  node_at point start alike = node_of s graphs agent drawn point start alike

  -- For each point that may follow, there is an edge with the most sends on a way there.
  pub weighed : (r : Action) → IsRegular s agent r → (to : ℕ) → Contains (following (timing s agent) r.point) to → (f : Edge) × Contains sent f × HasMost ways agent r.point to stream f.weight
  weighed r regular to follows =
      let end = end_date (timing s agent) r.start to in
      let (node, into) = node_at to end (goes_alike s agent r regular to follows) in
      let (e, step, at) = step_to s graphs agent drawn r regular to node follows into in
      let (f, there, its) = sent_edge ways agent stream spots edges sent sends e step.there in
      (f, there, its.most (spot_at graph.cycle r.point r.start) (spot_at graph.cycle to end) step.from step.into)

  -- The edge of an action that reached a point and a node, weighted by the most sends
  pub record IsSendStep (r : Action) (node end : ℕ) (f : Edge) : Type 0 where
    pub there : Contains sent f
    pub from : IsNodeAt r.point r.start f.from
    pub into : f.to ≡ node
    pub ends : r.start + f.len ≡ end
    pub weight : sends_to stream r ≤ f.weight

  module _ (window bound : ℕ) (greatest : IsGreatestWeight sent (FitsFirstFree (window - 1)) bound) (small : bound ≤ QUEUE) where
    -- Each action that reached a point has one.
    pub send_step : (r : Action) → IsRegular s agent r → SendsByWay ways agent r → (point end node : ℕ) → r.verdict ≡ Done point end → IsNodeAt point end node → (f : Edge) × IsSendStep r node end f
    send_step r regular by_way point end node done into =
        let (e, step, to, ends) = step_done s graphs agent drawn r regular point end node done into in
        let (f, there, its) = sent_edge ways agent stream spots edges sent sends e step.there in
        let most = its.most (spot_at graph.cycle r.point r.start) (spot_at graph.cycle point (end_date (timing s agent) r.start point)) step.from step.into in
        let low : f.weight ≤ QUEUE = omega (arith, small, single_weight sent (window - 1) bound greatest f there) in (
          f,
          record {
            there = there;
            from = ap (λ (g : Edge). slice_get spots g.from) its.same ∙ step.from;
            into = ap (λ (g : Edge). g.to) its.same ∙ to;
            ends = ap (λ (g : Edge). r.start + g.len) its.same ∙ ends;
            weight = uncut (sends_to stream r) f.weight (by_way point end done stream f.weight most) low;
          },
        )
