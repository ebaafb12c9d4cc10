-- How many messages of an agent's actions enter a stream within so many dates in a row: no more than the heaviest path that fits them.
use Rattle.std.proofs.Common.{◌≡◌, ℕ, suc, ◌+◌, ◌-◌, ◌<◌, ◌≤◌, Bool, All, List, [], ◌∷◌, length, length-append, Some, refl, sym, ap, ◌∙◌, subst, inl, inr, arith}
use Rattle.std.specs.Prelude.{◌&&◌, nat_le, nat_lt, filter}
use Rattle.std.specs.List.{Contains, flat_map}
use Rattle.std.proofs.lemmas.Bool.{and_parts, cases_lt, leb-true, ltb-true}
use Rattle.std.proofs.lemmas.List.Elements.{All-head, All-tail, filter-append}
use Rattle.std.proofs.lemmas.List.Sums.{count_by-le-length, length-filter}
use Rattle.psy_base.specs.declared.edge.Edge.{Edge}
use Rattle.psy_base.specs.declared.limits.TheConstants.{QUEUE}
use Rattle.psy_base.specs.declared.message.Message.{Message}
use Rattle.psy_base.specs.Paths.{FitsFirstFree, IsGreatestWeight, IsPathFrom, length_of, weight_of}
use Rattle.psy_history.specs.Actions.{Action, Next, System, Verdict, Done, Overran, Trapped, next_by, next_of, timing}
use Rattle.psy_meaning.specs.Graph.{Spot, IsGraph, spot_at}
use Rattle.psy_meaning.specs.Timing.{end_date}
use Rattle.psy_history.specs.Visible.{messages_by}
use Rattle.psy_history.specs.Regular.{IsRegular, WereStarted}
use Rattle.psy_meaning.specs.KnownWays.{Ways}
use Rattle.psy_meaning.specs.QueueSizes.{AreSendEdges}
use Rattle.psy_history.proofs.Growth.{next_done}
use Rattle.psy_history.proofs.MessagesOfSends.{many_from, of_send}
use Rattle.psy_history.proofs.PassingMessages.{filter_none}
use Rattle.psy_history.proofs.SamePhases.{goes_alike}
use Rattle.psy_history.proofs.SendWeights.{IsNodeAt, SendsByWay, node_at, send_step, sends_to}

-- It has entered by this date, and fewer dates than these lie behind.
abbrev pub is_recent : ℕ → ℕ → Message → Bool
is_recent date window m = nat_le m.entry date && nat_lt date (m.entry + window)

-- The messages of an action to a stream
abbrev pub messages_of : System → ℕ → Action → List Message
messages_of s stream r = messages_by s stream r.agent r.deeds.sends r.verdict

-- How many messages of these actions have entered, with fewer dates behind
abbrev pub sent_in_time : System → ℕ → ℕ → ℕ → List Action → ℕ
sent_in_time s stream date window actions = length (filter (is_recent date window) (flat_map (messages_of s stream) actions))

module _ (s : System) (stream date window : ℕ) where
  abbrev recent : Message → Bool
  recent = is_recent date window

  -- ---- one action

  -- how many of its messages
  abbrev own : Action → ℕ
  own r = length (filter recent (messages_of s stream r))

  -- one action more
  with_own : (r : Action) (before : List Action) → sent_in_time s stream date window (r ∷ before) ≡ own r + sent_in_time s stream date window before
  with_own r before =
      ap length (filter-append recent (messages_of s stream r) (flat_map (messages_of s stream) before)) ∙ length-append (filter recent (messages_of s stream r)) (filter recent (flat_map (messages_of s stream) before))

  module _ (r : Action) (point end : ℕ) (done : r.verdict ≡ Done point end) where
    -- where it reached a point
    are : messages_of s stream r ≡ messages_by s stream r.agent r.deeds.sends (Done point end)
    are = ap (messages_by s stream r.agent r.deeds.sends) done

    -- no more than it sent
    own_few : own r ≤ sends_to stream r
    own_few =
        let few = count_by-le-length recent (messages_of s stream r) in
        omega (arith, few, length-filter recent (messages_of s stream r), ap length are, many_from s stream r.agent end 0 r.deeds.sends)

    -- where it ended too late or too early
    own_none : (end ≤ date → date < end + window → ⊥) → own r ≡ 0
    own_none other = filter_none recent (messages_of s stream r) (λ m c passes.
        let of = of_send s stream r.agent end 0 r.deeds.sends m (subst (λ ms. Contains ms m) are c) in
        let entry : end ≡ m.entry = ap (λ (n : Message). n.entry) of.is in
        let (by, after) = and_parts (nat_le m.entry date) (nat_lt date (m.entry + window)) passes in
        other (omega (arith, entry, leb-true m.entry date by)) (omega (arith, entry, ltb-true date (m.entry + window) after)))

  -- ---- an agent's actions

  module _ (dates agent : ℕ) where
    -- Where the next one starts so late, all these have ended too early.
    none_recent : (actions : List Action) → WereStarted s dates agent actions → All (IsRegular s agent) actions → (n : Next) → next_of s agent actions ≡ Some n → n.start + window ≤ date → sent_in_time s stream date window actions ≡ 0
    none_recent [] were all n is old = refl
    none_recent (r ∷ before) (was, were) all n is old =
        let regular = All-head (IsRegular s agent) r before all in
        let done = (next_done r.number r.after r.verdict n is).0 in
        let ends = regular.ends n.point n.start done in
        let start : r.start ≡ was.next.start = ap (λ (x : Action). x.start) was.made in
        let earlier = none_recent before were (All-tail (IsRegular s agent) r before all) was.next was.is_next (omega (arith, start, regular.due, ends.2, old)) in
        omega (arith, with_own r before, earlier, own_none r n.point n.start done (λ by after. omega (arith, after, old)))

    module _ (ways : Ways) (spots : List Spot) (edges sent : List Edge) (graph : IsGraph (timing s agent) spots edges) (sends : AreSendEdges ways agent stream spots edges sent)
        (bound : ℕ) (greatest : IsGreatestWeight sent (FitsFirstFree (window - 1)) bound) (small : bound ≤ QUEUE) where
      abbrev IsNode : ℕ → ℕ → ℕ → Type 0
      IsNode = IsNodeAt s ways agent stream spots edges sent graph sends

      -- The messages in time, and a path of later actions, weigh no more than the bound: the path grows at its front.
      with_path : (actions : List Action) → WereStarted s dates agent actions → All (IsRegular s agent) actions → All (SendsByWay ways agent) actions
          → (n : Next) (node : ℕ) (path : List Edge) → next_of s agent actions ≡ Some n → IsNode n.point n.start node → IsPathFrom sent node path → n.start + length_of path ≤ date → FitsFirstFree (window - 1) path
          → sent_in_time s stream date window actions + weight_of path ≤ bound
      with_path [] were all by_way n node path is at from within fits = omega (arith, greatest.most path (node, from) fits)
      with_path (r ∷ before) (was, were) all by_way n node path is at from within fits =
          let regular = All-head (IsRegular s agent) r before all in
          let done = (next_done r.number r.after r.verdict n is).0 in
          elim (cases_lt date (n.start + window)) [
            | inl recent ↦ (
                let (f, step) = send_step s ways agent stream spots edges sent graph sends window bound greatest small r regular (All-head (SendsByWay ways agent) r before by_way) n.point n.start node done at in
                let start : r.start ≡ was.next.start = ap (λ (x : Action). x.start) was.made in
                let began : IsNode was.next.point was.next.start f.from = step.from ∙ ap (λ (x : Action). Some (spot_at graph.cycle x.point x.start)) was.made in
                let rest : IsPathFrom sent f.to path = subst (λ k. IsPathFrom sent k path) (sym step.into) from in
                let earlier : sent_in_time s stream date window before + (f.weight + weight_of path) ≤ bound =
                with_path before were (All-tail (IsRegular s agent) r before all) (All-tail (SendsByWay ways agent) r before by_way) was.next f.from (f ∷ path) was.is_next began (step.there, refl, rest)
                (omega (arith, start, step.ends, within)) (omega (arith, within, recent)) in
                omega (arith, with_own r before, own_few r n.point n.start done, step.weight, earlier))
            | inr old ↦ omega (arith, none_recent (r ∷ before) (was, were) all n is old, greatest.most path (node, from) fits)
          ]

      -- behind the last one
      without_last : (r : Action) (before : List Action) → WereStarted s dates agent (r ∷ before) → All (IsRegular s agent) (r ∷ before) → All (SendsByWay ways agent) (r ∷ before) → r.start ≤ date → sent_in_time s stream date window before ≤ bound
      without_last r before (was, were) all by_way by =
          let regular = All-head (IsRegular s agent) r before all in
          let (node, at) = node_at s ways agent stream spots edges sent graph sends r.point r.start regular.starts in
          let start : r.start ≡ was.next.start = ap (λ (x : Action). x.start) was.made in
          let began : IsNode was.next.point was.next.start node = at ∙ ap (λ (x : Action). Some (spot_at graph.cycle x.point x.start)) was.made in
          let most = with_path before were (All-tail (IsRegular s agent) r before all) (All-tail (SendsByWay ways agent) r before by_way) was.next node [] was.is_next began (tt {0}) (omega (arith, start, by)) (tt {0}) in
          omega (arith, most)

      -- all of them
      pub most_in_time : (actions : List Action) → WereStarted s dates agent actions → All (IsRegular s agent) actions → All (SendsByWay ways agent) actions → dates ≤ suc date → sent_in_time s stream date window actions ≤ bound
      most_in_time [] were all by_way by = omega arith
      most_in_time (r ∷ before) (was, were) all by_way by = from r.verdict refl
        where
          regular : IsRegular s agent r
          regular = All-head (IsRegular s agent) r before all

          others : sent_in_time s stream date window before ≤ bound
          others = (let start : r.start ≡ was.next.start = ap (λ (x : Action). x.start) was.made in without_last r before (was, were) all by_way (omega (arith, start, was.at, by)))

          unsent : messages_of s stream r ≡ [] → sent_in_time s stream date window (r ∷ before) ≤ bound
          unsent none = (let few : own r ≡ 0 = ap (λ ms. length (filter recent ms)) none in omega (arith, with_own r before, few, others))

          from : (v : Verdict) → r.verdict ≡ v → sent_in_time s stream date window (r ∷ before) ≤ bound
          from (Done point end) done = elim (cases_lt date end) [
            | inl late ↦ omega (arith, with_own r before, own_none r point end done (λ by after. omega (arith, by, late)), others)
            | inr ended ↦ (
                let ends = regular.ends point end done in
                let (node, at) = node_at s ways agent stream spots edges sent graph sends point (end_date (timing s agent) r.start point) (goes_alike s agent r regular point ends.0) in
                let next : Next = record { number = r.number + 1; point = point; start = end; carried = r.after } in
                let there : IsNode point end node = subst (λ t. IsNode point t node) (sym ends.1) at in
                let most = with_path (r ∷ before) (was, were) all by_way next node [] (ap (next_by r.number r.after) done) there (tt {0}) (omega (arith, ended)) (tt {0}) in
                omega (arith, most))
          ]
          from (Trapped kind) is = unsent (ap (messages_by s stream r.agent r.deeds.sends) is)
          from Overran is = unsent (ap (messages_by s stream r.agent r.deeds.sends) is)
