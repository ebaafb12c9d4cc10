-- The history of a run: at each date its agents go on with what they may carry, and their actions are regular and send what the ways send.
use Rattle.std.proofs.Common.{◌≡◌, ℕ, ◌+◌, ◌-◌, ◌<◌, ◌≤◌, List, [], ◌∷◌, length, map, Some, inr, arith}
use Rattle.std.specs.Prelude.{FitsSigned, pos}
use Rattle.std.specs.Int.{w32}
use Rattle.std.specs.List.{All, range_with_len}
use Rattle.std.proofs.lemmas.List.Elements.{All-cons, All-map, All-nil, All-weaker}
use Rattle.std.proofs.lemmas.List.FromFn.{length-map-range_with_len}
use Rattle.std.proofs.lemmas.Simd.{map-map}
use Rattle.psy_code.specs.declared.code.Code.{Code}
use Rattle.psy_code.specs.Execution.{Copy}
use Rattle.psy_base.specs.Extremes.{IsGreatest}
use Rattle.psy_history.specs.Actions.{Action, Next, System, next_of, timing}
use Rattle.psy_meaning.specs.CodeWays.{agent_code_at}
use Rattle.psy_history.specs.Executors.{Carried}
use Rattle.psy_tree.specs.Parts.{agent_at}
use Rattle.psy_meaning.specs.QueueSizes.{MayLast}
use Rattle.psy_meaning.specs.Timing.{end_date, first, first_date}
use Rattle.psy_meaning.specs.Alike.{IsViewOf, first_copies}
use Rattle.psy_history.specs.History.{action_of, history}
use Rattle.psy_history.specs.Visible.{seen_at, view_of}
use Rattle.psy_history.specs.Regular.{IsLawful, IsRegular}
use Rattle.psy_history.specs.Openings.{IsHeldBefore, MayCarry}
use Rattle.psy_history.specs.Runs.{IsRun}
use Rattle.psy_history.specs.Ways.{IsSentBy}
use Rattle.psy_meaning.specs.KnownWays.{Ways}
use Rattle.psy_history.proofs.Cuts.{zeros_fit}
use Rattle.psy_history.proofs.Growth.{at_each_date}
use Rattle.psy_history.proofs.Numbers.{few, were_started}
use Rattle.psy_history.proofs.RunActions.{AreRunLaws, IsReady, by_way, goes_on, leaves, of_unit, regular, sends, some_next}
use Rattle.psy_history.proofs.Seeing.{LeavesFit, MessageFits, sees, zero_fits}
use Rattle.psy_history.proofs.Timings.{ends_late}
use Rattle.psy_history.proofs.SendWeights.{SendsByWay}

-- An action of a run: regular, begun with what its agent may carry and see, it sends what the ways send, and where it reached a point no
-- more than on a way there.
pub record IsOwn (s : System) (ways : Ways) (code : Code) (agent : ℕ) (r : Action) : Type 0 where
  pub regular : IsRegular s agent r
  pub carries : MayCarry s.unit code agent r.before
  pub sees : IsViewOf s.unit agent r.view
  pub sends : All (IsSentBy ways s.unit) r.deeds.sends
  pub by_way : SendsByWay ways agent r

module _ (s : System) (ways : Ways) (code : Code) (laws : AreRunLaws code) (run : IsRun s ways code) where
  -- What is kept of the actions of an agent, and of where it goes on.
  record Keeps (agent : ℕ) (actions : List Action) : Type 0 where
    own : All (IsOwn s ways code agent) actions
    leave : All (LeavesFit s.unit) actions
    next : (n : Next) → next_of s agent actions ≡ Some n → IsReady s ways code laws run agent n

  seeing : (date : ℕ) → ((agent : ℕ) → Keeps agent (history s date agent)) → (agent start : ℕ) → IsViewOf s.unit agent (view_of s (history s date) agent start (seen_at s (history s date) start))
  seeing date all agent start =
      sees s run.opened.committed run.opened.published (λ stream. All-weaker (IsHeldBefore s stream) MessageFits (λ m is. is.value) (s.opening.messages stream) (run.opened.messages stream).each) run.inputs.values run.inits
      (history s date) (λ a. (all a).leave) agent start

  keeps_none : (agent : ℕ) → Keeps agent []
  keeps_none agent = record {
    own = All-nil (IsOwn s ways code agent);
    leave = All-nil (LeavesFit s.unit);
    next = λ n is. record { less = (run.opened.known agent n is).0; alike = run.opened.starts agent n is; carries = run.opened.carries agent n is };
  }

  keeps_more : (date agent : ℕ) (n : Next) → ((agent : ℕ) → Keeps agent (history s date agent)) → next_of s agent (history s date agent) ≡ Some n → Keeps agent (action_of s (history s date) agent n ∷ history s date agent)
  keeps_more date agent n all is =
      let h = history s date in
      let r : Action = action_of s h agent n in
      let before = all agent in
      let ready = before.next n is in
      let seen = seen_at s h n.start in
      let view = view_of s h agent n.start seen in
      let fits = seeing date all agent n.start in
      let own : IsOwn s ways code agent r = record {
        regular = regular s ways code laws run agent n ready view seen fits;
        carries = ready.carries;
        sees = fits;
        sends = sends s ways code laws run agent n ready view seen fits;
        by_way = by_way s ways code laws run agent n ready view seen fits;
      } in
      record {
        own = All-cons (IsOwn s ways code agent) r (h agent) own before.own;
        leave = All-cons (LeavesFit s.unit) r (h agent) (leaves s ways code laws run agent n ready view seen fits) before.leave;
        next = goes_on s ways code laws run agent n ready view seen fits;
      }

  keeps : (dates agent : ℕ) → Keeps agent (history s dates agent)
  keeps = at_each_date s (λ date. Keeps) keeps_none (λ date agent actions kept. kept) (λ date agent n all is at. keeps_more date agent n all is)

  -- ---- what is kept

  -- The next action can start, and sees a view of its agent.
  pub next_ready : (date agent : ℕ) (n : Next) → next_of s agent (history s date agent) ≡ Some n → IsReady s ways code laws run agent n
  next_ready date agent n is = (keeps date agent).next n is

  pub next_sees : (date agent start : ℕ) → IsViewOf s.unit agent (view_of s (history s date) agent start (seen_at s (history s date) start))
  next_sees date agent start = seeing date (keeps date) agent start

  pub all_leave : (dates agent : ℕ) → All (LeavesFit s.unit) (history s dates agent)
  all_leave dates agent = (keeps dates agent).leave

  pub all_own : (dates agent : ℕ) → All (IsOwn s ways code agent) (history s dates agent)
  all_own dates agent = (keeps dates agent).own

  pub all_sent : (dates agent : ℕ) → All (λ r. All (IsSentBy ways s.unit) r.deeds.sends) (history s dates agent)
  all_sent dates agent = All-weaker (IsOwn s ways code agent) (λ r. All (IsSentBy ways s.unit) r.deeds.sends) (λ r own. own.sends) (history s dates agent) (all_own dates agent)

  pub all_by_way : (dates agent : ℕ) → All (SendsByWay ways agent) (history s dates agent)
  all_by_way dates agent = All-weaker (IsOwn s ways code agent) (SendsByWay ways agent) (λ r own. own.by_way) (history s dates agent) (all_own dates agent)

  pub lawful : IsLawful s
  lawful = record {
    opening = λ agent n is. ((run.opened.known agent n is).0, run.opened.starts agent n is);
    actions = λ dates agent. record {
      were_started = were_started s dates agent;
      each = All-weaker (IsOwn s ways code agent) (IsRegular s agent) (λ r own. own.regular) (history s dates agent) (all_own dates agent);
      few = few s dates agent;
    };
  }

  -- ---- how long actions last

  -- An agent may carry zeros.
  zeros : (agent : ℕ) → (carried : Carried) × MayCarry s.unit code agent carried
  zeros agent =
      let firsts = first_copies s.unit agent in
      let numbers = range_with_len 0 (length (agent_code_at code agent).cells) in
      let copies : List Copy = map (λ (c : Copy). record { variable = c.variable; value = pos 0 }) firsts in
      let carried : Carried = record { cells = map (λ n. pos 0) numbers; copies = copies } in (
        carried,
        record {
          cells = length-map-range_with_len (λ n. pos 0) 0 (length (agent_code_at code agent).cells);
          values = zeros_fit (agent_at s.unit agent) numbers;
          variables = map-map (λ (c : Copy). c.variable) (λ (c : Copy). record { variable = c.variable; value = pos 0 }) firsts;
          copies = All-map (λ (c : Copy). FitsSigned w32 c.value) (λ (c : Copy). record { variable = c.variable; value = pos 0 }) firsts (λ i d less. zero_fits);
        },
      )

  -- The longest of an agent lasts a tick at least.
  pub lasts_some : (agent : ℕ) → agent < length s.unit.agents → (longest : ℕ) → IsGreatest (MayLast (timing s agent)) longest → 1 ≤ longest
  lasts_some agent less longest greatest =
      let times = timing s agent in
      let start : ℕ = first_date times in
      let (carried, may) = zeros agent in
      let view = view_of s (history s 0) agent start (seen_at s (history s 0) start) in
      let well = run.runs agent 0 start carried view less first may (next_sees 0 agent start) in
      let (to, follows) = some_next s ways code laws run agent less 0 carried view well in
      let inner = run.points agent 0 to less follows in
      let late = ends_late s.unit agent (agent_at s.unit agent) times.nexts run.bare (of_unit s ways code laws run agent less) laws.late start to inner.0 inner.1 in
      let ticks : start + (end_date times start to - start) ≡ end_date times start to = omega (arith, late) in
      omega (arith, late, greatest.most (end_date times start to - start) (inr (0, start, to, first, follows, ticks)))
