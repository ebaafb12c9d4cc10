-- The run of a plan keeps its bounds: what is known of its code's history holds of its statements' too. So it is from date 0 on, and behind a state.
use Rattle.std.proofs.Common.{◌≡◌, refl, sym, ap, ◌∙◌, subst, ℕ, zero, suc, ◌+◌, ◌*◌, ◌<◌, ◌≤◌, ◌==◌, nat_lt, Bool, true, false, if◌then◌else◌, List, [], ◌∷◌, length, get_or, Option, None, Some, ℤ, arith}
use Rattle.std.specs.List.{Contains}
use Rattle.std.proofs.lemmas.Bool.{eqb-true}
use Rattle.std.proofs.lemmas.List.Elements.{All-contains}
use Rattle.std.proofs.lemmas.Option.{slice_get-get_or}
use Rattle.psy_base.specs.declared.limits.TheConstants.{QUEUE}
use Rattle.psy_history.specs.Actions.{Action, Next, Opening, System, next_of}
use Rattle.psy_history.specs.History.{action_of, history, with_start}
use Rattle.psy_meaning.specs.KnownWays.{OfText}
use Rattle.psy_meaning.specs.QueueSizes.{IsQueueSize}
use Rattle.psy_meaning.specs.RingSizes.{IsRingSize}
use Rattle.psy_history.specs.Processors.{processor_at}
use Rattle.psy_history.specs.Schedule.{Turn, finish, units}
use Rattle.psy_history.specs.Summary.{most_held, reach}
use Rattle.psy_history.specs.Compiled.{coded_behind, stated_behind}
use Rattle.psy_history.specs.Likeness.{AreLike, IsLike}
use Rattle.psy_history.specs.Regular.{IsLawful, IsRegular}
use Rattle.psy_history.specs.Scheduled.{IsFinished, IsSupplied, turns_by, turns_of}
use Rattle.psy_dates.specs.declared.plan.Plan.{Plan}
use Rattle.psy_history.specs.declared.told.Script.{Script}
use Rattle.psy_history.specs.Scripts.{IsScript, order_of, stalls_of}
use Rattle.psy_run.specs.Bounds.{KeepsBoundsIn}
use Rattle.psy_run.specs.Planned.{IsStatedPlan}
use Rattle.psy_run.proofs.KeptOrders.{order_each}

-- ---- actions

-- An action among the second ones is like one among the first
like_one : (rs qs : List Action) (q : Action) → AreLike rs qs → Contains qs q → (r : Action) × Contains rs r × IsLike r q
like_one [] [] q like there = absurd (omega (arith, there.1))
like_one [] (p ∷ qs) q like there = absurd like
like_one (r ∷ rs) [] q like there = absurd like
like_one (r ∷ rs) (p ∷ qs) q like (zero, less, same) = (r, (zero, omega arith, refl), subst (IsLike r) same like.0)
like_one (r ∷ rs) (p ∷ qs) q like (suc place, less, same) =
    let found = like_one rs qs q like.1 (place, omega (arith, less), same) in
    (found.0, (suc found.1.0, omega (arith, found.1.1), found.1.2), found.2)

module _ (s : System) (lawful : IsLawful s) (date agent : ℕ) (r : Action) where
  -- an action that started before a date is not the one that starts at it
  by_test : (n : Next) (b : Bool) → (n.start == date) ≡ b → r.start < date → Contains (if b then action_of s (history s date) agent n ∷ history s date agent else history s date agent) r → Contains (history s date agent) r
  by_test n false at before there = there
  by_test n true at before (zero, less, same) =
      let start : n.start ≡ r.start = ap (λ (q : Action). q.start) same in
      let now = eqb-true n.start date at in
      absurd (omega (arith, start, now, before))
  by_test n true at before (suc place, less, same) = (place, omega (arith, less), same)

  by_next : (next : Option Next) → r.start < date → Contains (with_start s (history s date) date agent (history s date agent) next) r → Contains (history s date agent) r
  by_next None before there = there
  by_next (Some n) before there = by_test n (n.start == date) refl before there

  -- an action that is due by a date started before it, since its deadline lies behind its start
  pub started_before : Contains (history s (date + 1) agent) r → r.deadline ≤ date → Contains (history s date agent) r
  started_before there due =
      let regular = All-contains (IsRegular s agent) (history s (date + 1) agent) r (lawful.actions (date + 1) agent).each there in
      let next : date + 1 ≡ suc date = omega arith in
      by_next (next_of s agent (history s date agent)) (omega (arith, regular.due, due)) (subst (λ d. Contains (history s d agent) r) next there)

-- ---- a run

module _ (plan : Plan) (inputs : List (List ℤ)) (script : Script) (begins goes_on : Opening) (places : ℕ → ℕ) (is : IsStatedPlan plan) (its : IsScript plan.unit script) where
  -- the run by the plan's code, from where this begins
  abbrev by_code : System
  by_code = coded_behind plan.unit plan.code plan.nexts (stalls_of script) inputs begins

  -- the run by the statements, from where these begin
  abbrev by_meaning : System
  by_meaning = stated_behind plan.unit plan.nexts (stalls_of script) inputs goes_on

  -- the order of ties
  abbrev ties : ℕ → List ℕ
  ties = order_of plan.unit script

  -- by agent, what the cycles of its processor up to the last date go to
  abbrev cycles_of : System → ℕ → List (Option Turn)
  cycles_of s agent = turns_by s ties (plan.until * plan.unit.quantum) agent

  -- each processor can supply what the run demands of it
  supplied : IsLawful by_code → IsSupplied by_code ties plan.until
  supplied lawful = record {
    lawful = lawful;
    quantum = is.compiled.text.bare.quantum.0;
    orders = order_each plan.unit script its;
    graphs = is.supplied.graphs;
    drawn = record { count = is.supplied.drawn.count; each = is.supplied.drawn.each };
    feasible = is.supplied.feasible;
  }

  -- what the laws of histories say of the two runs
  pub record RunLaws : Type 0 where
    pub lawful : IsLawful by_code
    pub actions : (dates agent : ℕ) → AreLike (history by_code dates agent) (history by_meaning dates agent)
    pub schedule : (cycles processor : ℕ) → turns_of by_code ties cycles processor ≡ turns_of by_meaning ties cycles processor
    pub reaches : (variable : ℕ) → reach by_code (cycles_of by_code) (history by_code (plan.until + 1)) variable ≡ reach by_meaning (cycles_of by_meaning) (history by_meaning (plan.until + 1)) variable
    pub held : (stream : ℕ) → most_held by_code plan.until stream ≡ most_held by_meaning plan.until stream
    pub finishes : (agent : ℕ) (r : Action) → IsSupplied by_code ties plan.until → Contains (history by_code plan.until agent) r → r.deadline ≤ plan.until → finish r.agent r.number (cycles_of by_code r.agent) ≤ r.deadline * plan.unit.quantum
    pub worked : (agent : ℕ) (r : Action) → IsSupplied by_code ties plan.until → Contains (history by_code (plan.until + 1) agent) r → r.deadline ≤ plan.until → IsFinished by_code ties (r.deadline * plan.unit.quantum) r
    pub reached : (variable size n : ℕ) → IsSupplied by_code ties plan.until → IsRingSize plan.unit (OfText plan.unit) plan.nexts variable size → reach by_code (cycles_of by_code) (history by_code (plan.until + 1)) variable ≡ Some n → n < size
    pub most : (stream : ℕ) → stream < length plan.unit.streams → IsQueueSize plan.unit (OfText plan.unit) plan.nexts stream (get_or plan.sizes.queues stream 0)
        → get_or plan.sizes.queues stream 0 ≤ QUEUE → most_held by_code plan.until stream ≤ places stream

  module _ (law : RunLaws) where
    -- the cycles of an action's processor, by both
    schedule_like : (cycles : ℕ) (r q : Action) → r.agent ≡ q.agent → turns_by by_code ties cycles r.agent ≡ turns_by by_meaning ties cycles q.agent
    schedule_like cycles r q same = law.schedule cycles (processor_at plan.unit r.agent) ∙ ap (turns_by by_meaning ties cycles) same

    -- each action that is due by the last date has had its work by its deadline
    finished : (agent : ℕ) (q : Action) → Contains (history by_meaning (plan.until + 1) agent) q → q.deadline ≤ plan.until → IsFinished by_meaning ties (q.deadline * plan.unit.quantum) q
    finished agent q there due =
        let found = like_one (history by_code (plan.until + 1) agent) (history by_meaning (plan.until + 1) agent) q (law.actions (plan.until + 1) agent) there in
        let r = found.0 in
        let like = found.2 in
        let kept = law.worked agent r (supplied law.lawful) found.1 (subst (λ d. d ≤ plan.until) (sym like.deadline) due) in
        let turns = schedule_like (r.deadline * plan.unit.quantum) r q like.agent in
        let same : IsFinished by_meaning ties (r.deadline * plan.unit.quantum) q = (λ i. nat_lt (units (sym like.agent i) (sym like.number i) (sym turns i)) (sym like.work i)) ∙ kept in
        subst (λ d. IsFinished by_meaning ties (d * plan.unit.quantum) q) like.deadline same

    -- each action that is due by the last date ends in time
    in_time : (agent : ℕ) (q : Action) → Contains (history by_meaning (plan.until + 1) agent) q → q.deadline ≤ plan.until → finish q.agent q.number (cycles_of by_meaning q.agent) ≤ q.deadline * plan.unit.quantum
    in_time agent q there due =
        let found = like_one (history by_code (plan.until + 1) agent) (history by_meaning (plan.until + 1) agent) q (law.actions (plan.until + 1) agent) there in
        let r = found.0 in
        let like = found.2 in
        let due' : r.deadline ≤ plan.until = subst (λ d. d ≤ plan.until) (sym like.deadline) due in
        let kept = law.finishes agent r (supplied law.lawful) (started_before by_code law.lawful plan.until agent r found.1 due') due' in
        let turns = schedule_like (plan.until * plan.unit.quantum) r q like.agent in
        let same : finish r.agent r.number (cycles_of by_code r.agent) ≡ finish q.agent q.number (cycles_of by_meaning q.agent) = λ i. finish (like.agent i) (like.number i) (turns i) in
        let late : r.deadline * plan.unit.quantum ≡ q.deadline * plan.unit.quantum = ap (λ d. d * plan.unit.quantum) like.deadline in
        subst (λ d. finish q.agent q.number (cycles_of by_meaning q.agent) ≤ d) late (subst (λ n. n ≤ r.deadline * plan.unit.quantum) same kept)

    -- no ring is reached for beyond its size
    rings : (variable n : ℕ) → variable < length plan.unit.variables → reach by_meaning (cycles_of by_meaning) (history by_meaning (plan.until + 1)) variable ≡ Some n → n < get_or plan.sizes.rings variable 0
    rings variable n known far =
        let at = slice_get-get_or plan.sizes.rings variable 0 (subst (λ k. variable < k) (sym is.buffers.rings.count) known) in
        law.reached variable (get_or plan.sizes.rings variable 0) n (supplied law.lawful) (is.buffers.rings.each variable (get_or plan.sizes.rings variable 0) at) (law.reaches variable ∙ far)

    -- no queue holds more than its places
    queues : (stream : ℕ) → stream < length plan.unit.streams → most_held by_meaning plan.until stream ≤ places stream
    queues stream known =
        let within = subst (λ k. stream < k) (sym is.buffers.queues.count) known in
        let at = slice_get-get_or plan.sizes.queues stream 0 within in
        let size = get_or plan.sizes.queues stream 0 in
        subst (λ n. n ≤ places stream) (law.held stream) (law.most stream known (is.buffers.queues.each stream size at) (is.buffers.small_queues stream 0 within))

    pub keeps_bounds : KeepsBoundsIn places by_meaning ties plan.sizes plan.until
    keeps_bounds = record { finished = finished; in_time = in_time; rings = rings; queues = queues }
