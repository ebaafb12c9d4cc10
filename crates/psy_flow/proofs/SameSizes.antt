-- Sizes by readings of a program's ways that say the same are the same.
use Rattle.std.proofs.Common.{◌≡◌, ℕ, zero, suc, ◌+◌, ◌-◌, ◌<◌, ◌≤◌, Bool, true, false, List, [], length, get_or, Some, sym, ap, subst, ◌∙◌, inl, inr, arith}
use Rattle.std.specs.Prelude.{slice_get}
use Rattle.std.specs.List.{Contains}
use Rattle.std.proofs.lemmas.Option.{get_or_from_slice_get, slice_get-get_or, slice_get_within}
use Rattle.psy_base.specs.Extremes.{IsGreatest}
use Rattle.psy_base.specs.declared.edge.Edge.{Edge}
use Rattle.psy_lists.proofs.lemmas.Places.{listed_at}
use Rattle.psy_tree.specs.declared.unit.Unit.{Unit as Whole}
use Rattle.psy_tree.specs.Parts.{agent_at, no_agent}
use Rattle.psy_meaning.specs.Flow.{AreAllNexts, AreNexts}
use Rattle.psy_meaning.specs.Graph.{IsGraph, Spot}
use Rattle.psy_meaning.specs.KnownWays.{Ways, is_sent}
use Rattle.psy_meaning.specs.QueueSizes.{AreSendEdges, AreSendsBelow, HasSendsTo, IsQueueSize, IsSizeFor, IsSpreadBelow, IsWindow, PassesTable, lasting_of}
use Rattle.psy_meaning.specs.RingSizes.{IsRingSize, MayPass, agent_timing}
use Rattle.psy_meaning.specs.Timing.{MayStart, first, later}
use Rattle.psy_flow.specs.Agents.{IsKnown}
use Rattle.psy_flow.specs.Readings.{AreAlike}

-- The other way round
pub alike_back : (unit : Whole) (ways others : Ways) → AreAlike unit ways others → AreAlike unit others ways
alike_back unit ways others a = record {
  looks = λ agent point variable less inside. (let both = a.looks agent point variable less inside in (both.1, both.0));
  most = λ agent from to stream n less inside. (let both = a.most agent from to stream n less inside in (both.1, both.0));
  sends = λ agent stream less. sym (a.sends agent stream less);
  sent = λ stream. sym (a.sent stream);
  delays = λ stream less. sym (a.delays stream less);
}

module _ (unit : Whole) (nexts : List (List (List ℕ))) (are : AreAllNexts unit nexts) (known : (agent : ℕ) → agent < length unit.agents → IsKnown unit agent (agent_at unit agent)) where
  -- Actions start at points that there are.
  starts_within : (agent : ℕ) → agent < length unit.agents → (point start : ℕ) → MayStart (agent_timing unit nexts agent) point start → point < length (agent_at unit agent).points
  starts_within agent less point start first =
      let its = known agent less in
      let points = (its.sound.agents agent (agent_at unit agent) (slice_get-get_or unit.agents agent no_agent less)).points in
      omega (arith, points)
  starts_within agent less point start (later from begun to may follows) =
      let list = get_or nexts agent [] in
      let own : AreNexts unit.functions (agent_at unit agent) list =
      are.each agent (agent_at unit agent) list (slice_get-get_or unit.agents agent no_agent less) (slice_get-get_or nexts agent [] (omega (arith, less, are.count))) in
      ((known agent less).inner from point ((own.each from (get_or list from []) (listed_at list from point follows) point).0 follows)).1

  spot_within : (agent : ℕ) → agent < length unit.agents → (spots : List Spot) (edges : List Edge) → IsGraph (agent_timing unit nexts agent) spots edges → (place : ℕ) (spot : Spot) → slice_get spots place ≡ Some spot
      → spot.point < length (agent_at unit agent).points
  spot_within agent less spots edges graph place spot at =
      let c : Contains spots spot = (place, slice_get_within spots place spot at, get_or_from_slice_get spots place spot spot at) in
      let (start, may, phase) = (graph.nodes.all spot).0 c in
      starts_within agent less spot.point start may

  module _ (ways others : Ways) (alike : AreAlike unit ways others) where
    passes_alike : (variable dates : ℕ) → MayPass unit ways nexts variable dates → MayPass unit others nexts variable dates
    passes_alike variable dates (agent, point, date, due, decl, less, looks, (cycle, start, is_cycle, may, phase, sum), declared, is) =
        (agent, point, date, due, decl, less, (alike.looks agent point variable less (starts_within agent less point start may)).0 looks, (cycle, start, is_cycle, may, phase, sum), declared, is)

    edges_alike : (agent stream : ℕ) → agent < length unit.agents → (spots : List Spot) (edges sent : List Edge) → IsGraph (agent_timing unit nexts agent) spots edges
        → AreSendEdges ways agent stream spots edges sent → AreSendEdges others agent stream spots edges sent
    edges_alike agent stream less spots edges sent graph sends = record {
      count = sends.count;
      each = λ place e f at also. (let its = sends.each place e f at also in
          record { same = its.same; most = λ from to a b. (alike.most agent from.point to.point stream f.weight less (spot_within agent less spots edges graph e.from from a)).0 (its.most from to a b) });
    }

    spreads_alike : (stream window agents size : ℕ) → agents ≤ length unit.agents → IsSpreadBelow unit ways nexts stream window agents size → IsSpreadBelow unit others nexts stream window agents size
    spreads_alike stream window zero size few is = is
    spreads_alike stream window (suc agent) size few (rest, one, below, (spots, edges, sent, graph, sends, greatest), sum) =
        (rest, one, spreads_alike stream window agent rest (omega (arith, few)) below, (spots, edges, sent, graph, edges_alike agent stream (omega (arith, few)) spots edges sent graph sends, greatest), sum)

    window_alike : (stream window : ℕ) → stream < length unit.streams → IsWindow unit ways nexts stream window → IsWindow unit others nexts stream window
    window_alike stream window less (longest, greatest, is) = (longest, greatest, is ∙ ap (λ d. d + lasting_of unit stream + longest - 1) (alike.delays stream less))

    size_alike : (stream size : ℕ) (b : Bool) → stream < length unit.streams → IsSizeFor unit ways nexts stream size b → IsSizeFor unit others nexts stream size b
    size_alike stream size false less is = is
    size_alike stream size true less (window, of_window, below) = (window, window_alike stream window less of_window, spreads_alike stream window (length unit.agents) size (omega arith) below)

    pub queue_alike : (stream size : ℕ) → stream < length unit.streams → IsQueueSize unit ways nexts stream size → IsQueueSize unit others nexts stream size
    queue_alike stream size less is = subst (IsSizeFor unit others nexts stream size) (alike.sent stream) (size_alike stream size (is_sent ways stream) less is)

    pub table_alike : (stream : ℕ) → stream < length unit.streams → PassesTable unit ways nexts stream → PassesTable unit others nexts stream
    table_alike stream known_stream (agent, window, spots, edges, less, sends, is, graph, passes) =
        (agent, window, spots, edges, less, sym (alike.sends agent stream less) ∙ sends, window_alike stream window known_stream is, graph, passes)

    sends_alike : (agent : ℕ) → agent < length unit.agents → (from to streams n : ℕ) → from < length (agent_at unit agent).points → AreSendsBelow ways agent from to streams n → AreSendsBelow others agent from to streams n
    sends_alike agent less from to zero n inside is = is
    sends_alike agent less from to (suc stream) n inside (rest, one, below, most, sum) =
        (rest, one, sends_alike agent less from to stream rest inside below, (alike.most agent from to stream one less inside).0 most, sum)

    pub has_alike : (agent n : ℕ) → agent < length unit.agents → HasSendsTo unit ways nexts agent n → HasSendsTo unit others nexts agent n
    has_alike agent n less (from, to, inside, follows, sums) = (from, to, inside, follows, sends_alike agent less from to (length unit.streams) n inside sums)

  pub ring_alike : (ways others : Ways) → AreAlike unit ways others → (variable size : ℕ) → IsRingSize unit ways nexts variable size → IsRingSize unit others nexts variable size
  ring_alike ways others alike variable size is = record {
    most = is.most;
    one = elim is.one [ inl none ↦ inl none | inr passes ↦ inr (passes_alike ways others alike variable is.most passes) ];
    all = λ dates passes. is.all dates (passes_alike others ways (alike_back unit ways others alike) variable dates passes);
    decl = is.decl;
    declared = is.declared;
    sum = is.sum;
  }

  pub outbox_alike : (ways others : Ways) → AreAlike unit ways others → (agent size : ℕ) → agent < length unit.agents → IsGreatest (HasSendsTo unit ways nexts agent) size → IsGreatest (HasSendsTo unit others nexts agent) size
  outbox_alike ways others alike agent size less is = record {
    one = has_alike ways others alike agent size less is.one;
    most = λ n has. is.most n (has_alike others ways (alike_back unit ways others alike) agent n less has);
  }
