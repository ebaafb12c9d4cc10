-- The numbers of the messages that a stream holds have 32 bits: an action sends no more often than its budget allows.
use Rattle.std.proofs.Common.{◌≡◌, ℕ, zero, suc, ◌+◌, ◌^◌, ◌<◌, ◌≤◌, Bool, true, false, cond, inl, inr, List, [], ◌∷◌, length, Option, Some, None, sym, subst, arith}
use Rattle.std.specs.Prelude.{⊤, ◌==◌}
use Rattle.std.specs.List.{All, range_with_len}
use Rattle.std.proofs.lemmas.Bool.{cases_lt}
use Rattle.std.proofs.lemmas.List.{get_or_past, length-append}
use Rattle.std.proofs.lemmas.List.Elements.{All-append, All-cons, All-contains, All-filter, All-head, All-nil, All-tail}
use Rattle.psy_base.specs.declared.limits.TheConstants.{BUDGET}
use Rattle.psy_base.specs.declared.message.Message.{Message}
use Rattle.psy_code.specs.declared.code.AgentCode.{AgentCode}
use Rattle.psy_code.specs.declared.code.Code.{Code}
use Rattle.psy_code.specs.declared.look.Sent.{Sent}
use Rattle.psy_code.specs.Execution.{Next as NextMachine, Went, Ended, Trapped, Stuck, Run, RunState, Running, RanTo, TrappedBy, NoRun, call_of, deeds_then, go_on, next_of as next_machine, run_by, run_code, run_one}
use Rattle.psy_code.specs.Views.{Call, Deeds, Past, Ready, Send, Take, View}
use Rattle.psy_history.specs.Actions.{Action, History, Next, System, Verdict, Done, next_of, timing}
use Rattle.psy_history.specs.Actions as how
use Rattle.psy_history.specs.Executors.{Carried, Executor, acted_as, by_code, machine_at}
use Rattle.psy_history.specs.History.{action_of, history, with_start}
use Rattle.psy_history.specs.Queues.{queue_of}
use Rattle.psy_history.specs.Visible.{in_order, is_held, message_of, messages_by, messages_from, seen_at, sent_to, view_of}
use Rattle.psy_history.specs.Actions.{stream_of}
use Rattle.psy_lists.proofs.lemmas.Members.{all_flat_map, get_or_holds}
use Rattle.psy_meaning.specs.Alike.{started}
use Rattle.psy_meaning.specs.CodeWays.{agent_code_at}
use Rattle.psy_meaning.specs.Timing.{budget_at}
use Rattle.psy_meaning.specs.Units.{HasHead, IsBare, IsBarePoint}
use Rattle.psy_queue.specs.Order.{comes_before, put_in_order}
use Rattle.psy_tree.specs.declared.unit.AgentDecl.{AgentDecl}
use Rattle.psy_tree.specs.declared.unit.Point.{Point}
use Rattle.psy_tree.specs.declared.unit.Unit.{Unit as Whole}
use Rattle.psy_tree.specs.Parts.{agent_at, no_agent}

-- ---- the sends of a run

-- It sent no more often than that.
abbrev SendsUpTo : ℕ → Run → Type 0
SendsUpTo most (Running t) = length t.deeds.sends ≤ most
SendsUpTo most (RanTo point t) = length t.deeds.sends ≤ most
SendsUpTo most (TrappedBy kind t) = length t.deeds.sends ≤ most
SendsUpTo most NoRun = ⊤

up_to_more : (less most : ℕ) (run : Run) → less ≤ most → SendsUpTo less run → SendsUpTo most run
up_to_more less most (Running t) le few = omega (arith, le, few)
up_to_more less most (RanTo point t) le few = omega (arith, le, few)
up_to_more less most (TrappedBy kind t) le few = omega (arith, le, few)
up_to_more less most NoRun le few = tt

sends_then : (deeds : Deeds) (call : Option Call) (most : ℕ) → length deeds.sends ≤ most → length (deeds_then deeds call).sends ≤ most + 1
sends_then deeds None most few = omega (arith, few)
sends_then deeds (Some (Past variable back)) most few = omega (arith, few)
sends_then deeds (Some (Ready stream)) most few = omega (arith, few)
sends_then deeds (Some (Take stream)) most few = omega (arith, few)
sends_then deeds (Some (Send sent)) most few = omega (arith, few, length-append deeds.sends (sent ∷ []))

sends_by : (s : RunState) (call : Option Call) (next : NextMachine) (most : ℕ) → length s.deeds.sends ≤ most → SendsUpTo (most + 1) (run_by s call next)
sends_by s call (Went m) most few = sends_then s.deeds call most few
sends_by s call (Ended point m) most few = sends_then s.deeds call most few
sends_by s call (Trapped kind) most few = omega (arith, few)
sends_by s call Stuck most few = tt

module _ (code : Code) (its : AgentCode) where
  sends_on : (n : ℕ) (run : Run) (most : ℕ) → ((t : RunState) → length t.deeds.sends ≤ most + 1 → SendsUpTo (most + 1 + n) (run_code code its t n)) → SendsUpTo (most + 1) run
      → SendsUpTo (most + suc n) (go_on run (λ t. run_code code its t n))
  sends_on n (Running t) most on few = up_to_more (most + 1 + n) (most + suc n) (run_code code its t n) (omega arith) (on t few)
  sends_on n (RanTo point t) most on few = omega (arith, few)
  sends_on n (TrappedBy kind t) most on few = omega (arith, few)
  sends_on n NoRun most on few = tt

  run_sends : (n : ℕ) (s : RunState) (most : ℕ) → length s.deeds.sends ≤ most → SendsUpTo (most + n) (run_code code its s n)
  run_sends zero s most few = omega (arith, few)
  run_sends (suc n) s most few =
      sends_on n (run_one code its s) most (λ t fewer. run_sends n t (most + 1) fewer) (sends_by s (call_of code s.machine) (next_machine code its s.view s.machine) most few)

acted_sends : (budget : ℕ) (carried : Carried) (run : Run) → SendsUpTo budget run → length (acted_as budget carried run).deeds.sends ≤ budget
acted_sends budget carried (Running t) few = few
acted_sends budget carried (RanTo point t) few = few
acted_sends budget carried (TrappedBy kind t) few = few
acted_sends budget carried NoRun few = omega arith

-- ---- budgets

abbrev IsSmall : Point → Type 0
IsSmall p = p.budget ≤ BUDGET

all_small : (unit : Whole) (a : AgentDecl) (points : List Point) → a.budget ≤ BUDGET → HasHead a points (IsBarePoint unit) → All IsSmall points
all_small unit a [] le head = absurd head
all_small unit a (p ∷ points) le head = All-cons IsSmall p points (subst IsSmall (sym head.0) le) (λ i d there. (head.1 i d there).budget.1)

points_small : (unit : Whole) → IsBare unit → (agent : ℕ) → All IsSmall (agent_at unit agent).points
points_small unit bare agent = elim (cases_lt agent (length unit.agents)) [
  | inl less ↦ (let its = bare.agents agent no_agent less in all_small unit (agent_at unit agent) (agent_at unit agent).points its.budget.1 its.points)
  | inr past ↦ subst (λ (a : AgentDecl). All IsSmall a.points) (sym (get_or_past unit.agents agent no_agent past)) (All-nil IsSmall)
]

-- ---- the sends of actions

module _ (s : System) (code : Code) (coded : s.executor ≡ by_code code) (bare : IsBare s.unit) where
  abbrev SendsFew : Action → Type 0
  SendsFew r = length r.deeds.sends ≤ BUDGET

  budget_small : (agent point : ℕ) → budget_at (timing s agent) point ≤ BUDGET
  budget_small agent point = get_or_holds IsSmall (agent_at s.unit agent).points point (record { count = 1; clock = 0; budget = 0 }) (omega arith) (points_small s.unit bare agent)

  started_few : (h : History) (agent : ℕ) (n : Next) → SendsFew (action_of s h agent n)
  started_few h agent n =
      let budget : ℕ = budget_at (timing s agent) n.point in
      let view : View = view_of s h agent n.start (seen_at s h n.start) in
      let its : AgentCode = agent_code_at code agent in
      let run : Run = run_code code its (started (machine_at its n.point n.carried) view) budget in
      let few = acted_sends budget n.carried run (up_to_more (0 + budget) budget run (omega arith) (run_sends code its budget (started (machine_at its n.point n.carried) view) 0 (omega arith))) in
      subst (λ (e : Executor). length (e.act agent n.point n.carried view budget).deeds.sends ≤ BUDGET) (sym coded) (omega (arith, few, budget_small agent n.point))

  with_few : (h : History) (date agent : ℕ) (actions : List Action) (next : Option Next) → All SendsFew actions → All SendsFew (with_start s h date agent actions next)
  with_few h date agent actions None all = all
  with_few h date agent actions (Some n) all = by (n.start == date)
    where
      by : (b : Bool) → All SendsFew (cond b (action_of s h agent n ∷ actions) actions)
      by true = All-cons SendsFew (action_of s h agent n) actions (started_few h agent n) all
      by false = all

  all_few : (dates agent : ℕ) → All SendsFew (history s dates agent)
  all_few zero agent = All-nil SendsFew
  all_few (suc date) agent = with_few (history s date) date agent (history s date agent) (next_of s agent (history s date agent)) (all_few date agent)

  -- ---- the numbers of messages

  abbrev IsShort : Message → Type 0
  IsShort m = m.number < 2 ^ 32

  module _ (stream : ℕ) where
    from_short : (agent end first : ℕ) (sends : List Sent) → first + length sends ≤ BUDGET → All IsShort (messages_from s stream agent end first sends)
    from_short agent end first [] few = All-nil IsShort
    from_short agent end first (sent ∷ sends) few = by (sent.stream == stream) (from_short agent end (first + 1) sends (omega (arith, few)))
      where
        by : (b : Bool) → All IsShort (messages_from s stream agent end (first + 1) sends)
            → All IsShort (cond b (message_of s agent end first sent ∷ messages_from s stream agent end (first + 1) sends) (messages_from s stream agent end (first + 1) sends))
        by true all = All-cons IsShort (message_of s agent end first sent) (messages_from s stream agent end (first + 1) sends) (omega (arith, few)) all
        by false all = all

    by_short : (agent : ℕ) (sends : List Sent) (verdict : Verdict) → length sends ≤ BUDGET → All IsShort (messages_by s stream agent sends verdict)
    by_short agent sends (Done point end) few = from_short agent end 0 sends (omega (arith, few))
    by_short agent sends (how.Trapped kind) few = All-nil IsShort
    by_short agent sends how.Overran few = All-nil IsShort

    sent_short : (dates : ℕ) → All IsShort (s.opening.messages stream) → All IsShort (sent_to s (history s dates) stream)
    sent_short dates before = All-append IsShort (s.opening.messages stream) _ before
        (all_flat_map IsShort _ (range_with_len 0 (length s.unit.agents)) (λ agent c.
        all_flat_map IsShort (λ (r : Action). messages_by s stream r.agent r.deeds.sends r.verdict) (history s dates agent)
        (λ r there. by_short r.agent r.deeds.sends r.verdict (All-contains SendsFew (history s dates agent) r (all_few dates agent) there))))

    put_short : (m : Message) (messages : List Message) → IsShort m → All IsShort messages → All IsShort (put_in_order m messages)
    put_short m [] short all = All-cons IsShort m [] short all
    put_short m (n ∷ messages) short all = by (comes_before m n) (put_short m messages short (All-tail IsShort n messages all))
      where
        by : (b : Bool) → All IsShort (put_in_order m messages) → All IsShort (cond b (m ∷ n ∷ messages) (n ∷ put_in_order m messages))
        by true others = All-cons IsShort m (n ∷ messages) short all
        by false others = All-cons IsShort n (put_in_order m messages) (All-head IsShort n messages all) others

    ordered_short : (messages : List Message) → All IsShort messages → All IsShort (in_order messages)
    ordered_short [] all = all
    ordered_short (m ∷ messages) all = put_short m (in_order messages) (All-head IsShort m messages all) (ordered_short messages (All-tail IsShort m messages all))

    pub queue_short : (date : ℕ) → All IsShort (s.opening.messages stream) → All IsShort (queue_of s (suc date) stream)
    queue_short date before =
        let receiver : ℕ = (stream_of s stream).receiver in
        All-filter (is_held (s.opening.silent receiver) stream date (history s (suc date) receiver)) IsShort (in_order (sent_to s (history s (suc date)) stream))
        (ordered_short (sent_to s (history s (suc date)) stream) (sent_short (suc date) before))
