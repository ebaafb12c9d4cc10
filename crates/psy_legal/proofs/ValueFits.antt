-- What the variables of a run publish are values of 32 bits: actions that reach a point leave copies that are.
use Rattle.std.proofs.Common.{◌≡◌, ◌∙◌, sym, ap, subst, ℕ, suc, List, ◌∷◌, All, Some, inl, inr, arith}
use Rattle.std.specs.Prelude.{FitsSigned}
use Rattle.std.specs.Int.{w32}
use Rattle.std.specs.List.{Contains}
use Rattle.std.proofs.lemmas.List.Elements.{All-cons, All-contains, All-nil, All-weaker}
use Rattle.std.proofs.lemmas.Option.{same_Some}
use Rattle.psy_code.specs.declared.code.Code.{Code}
use Rattle.psy_code.specs.Execution.{NoRun, RanTo, Run, Running, TrappedBy}
use Rattle.psy_code.specs.Views.{View}
use Rattle.psy_lists.proofs.lemmas.Members.{contains_front}
use Rattle.psy_history.specs.Actions.{Action, Next, System, Done, charge_of, next_of, timing, variable_of}
use Rattle.psy_history.specs.Executors.{Acted, Carried, Reached, acted_as}
use Rattle.psy_history.specs.History.{action_of, history}
use Rattle.psy_history.specs.Openings.{IsHeldBefore, MayCarry}
use Rattle.psy_history.specs.Regular.{IsLawful, IsRegular}
use Rattle.psy_history.specs.Runs.{IsRun, StandsWell, run_from}
use Rattle.psy_history.specs.Visible.{published, seen_at, view_of}
use Rattle.psy_history.specs.Ways.{IsSentBy}
use Rattle.psy_meaning.specs.Alike.{IsViewOf}
use Rattle.psy_meaning.specs.Kept.{IsSentOf}
use Rattle.psy_meaning.specs.KnownWays.{Ways}
use Rattle.psy_meaning.specs.Timing.{budget_at}
use Rattle.psy_legal.proofs.Growth.{at_each_date, grown, next_done}
use Rattle.psy_legal.proofs.Seeing.{LeavesFit, MessageFits, init_fits, published_fits, sees}
use Rattle.psy_legal.proofs.Verdicts.{done_of}

-- An action that starts at a date is one of those behind it.
starts_there : (s : System) (date agent : ℕ) (n : Next) → next_of s agent (history s date agent) ≡ Some n → n.start ≡ date → Contains (history s (suc date) agent) (action_of s (history s date) agent n)
starts_there s date agent n next at = elim (grown s date agent) [
  | inl (is, other) ↦ absurd (other n next at)
  | inr (m, is_next, there, is) ↦ (
      let same : m ≡ n = same_Some m n (sym is_next ∙ next) in
      let r : Action = action_of s (history s date) agent n in
      subst (λ xs. Contains xs r) (sym is) (subst (λ k. Contains (action_of s (history s date) agent k ∷ history s date agent) r) (sym same) (contains_front r (history s date agent))))
]

module _ (s : System) (ways : Ways) (code : Code) (run : IsRun s ways code) (lawful : IsLawful s) (sent : (dates agent : ℕ) → All (λ r. All (IsSentBy ways s.unit) r.deeds.sends) (history s dates agent)) where
  -- What is kept of the actions of an agent, and of where it goes on
  record Keeps (agent : ℕ) (actions : List Action) : Type 0 where
    leave : All (LeavesFit s.unit) actions
    next : (n : Next) → next_of s agent actions ≡ Some n → MayCarry s.unit code agent n.carried

  seeing : (date : ℕ) → ((agent : ℕ) → Keeps agent (history s date agent)) → (agent start : ℕ) → IsViewOf s.unit agent (view_of s (history s date) agent start (seen_at s (history s date) start))
  seeing date all agent start =
      sees s run.opened.committed run.opened.published (λ stream. All-weaker (IsHeldBefore s stream) MessageFits (λ m is. is.value) (s.opening.messages stream) (run.opened.messages stream).each) run.inputs.values run.inits
      (history s date) (λ a. (all a).leave) agent start

  reached_by : (agent point budget to : ℕ) (carried : Carried) (o : Run) → StandsWell s ways code agent point o → (acted_as budget carried o).fate ≡ Reached to → MayCarry s.unit code agent (acted_as budget carried o).carried
  reached_by agent point budget to carried (Running t) stands reached = absurd cc
  reached_by agent point budget to carried (RanTo p t) stands reached = stands.2
  reached_by agent point budget to carried (TrappedBy kind t) stands reached = absurd cc
  reached_by agent point budget to carried NoRun stands reached = absurd stands

  keeps_more : (date agent : ℕ) (n : Next) → ((agent : ℕ) → Keeps agent (history s date agent)) → next_of s agent (history s date agent) ≡ Some n → n.start ≡ date → Keeps agent (action_of s (history s date) agent n ∷ history s date agent)
  keeps_more date agent n all is at =
      let h = history s date in
      let r : Action = action_of s h agent n in
      let before = all agent in
      let there = starts_there s date agent n is at in
      let its : IsRegular s agent r = All-contains (IsRegular s agent) (history s (suc date) agent) r (lawful.actions (suc date) agent).each there in
      let sends = All-contains (λ r. All (IsSentBy ways s.unit) r.deeds.sends) (history s (suc date) agent) r (sent (suc date) agent) there in
      let view : View = view_of s h agent n.start (seen_at s h n.start) in
      let budget = budget_at (timing s agent) n.point in
      let carries = before.next n is in
      let well = run.runs agent n.point its.starts.met n.carried view its.known its.starts.may carries (seeing date all agent n.start) in
      let after : Run = run_from code agent n.point n.carried view budget in
      let acted : Acted = s.executor.act agent n.point n.carried view budget in
      let acts : acted ≡ acted_as budget n.carried after = ap (λ executor. executor.act agent n.point n.carried view budget) run.coded in
      let may = λ (p e : ℕ) (done : r.verdict ≡ Done p e).
      (let reached = (done_of (timing s agent) n.start budget (charge_of s agent n.number acted.deeds.steps) acted.fate p e done).0 in
      subst (λ (a : Acted). MayCarry s.unit code agent a.carried) (sym acts)
      (reached_by agent n.point budget p n.carried after (well.stands budget (omega arith)) (sym (ap (λ (a : Acted). a.fate) acts) ∙ reached))) in
      record {
        leave = All-cons (LeavesFit s.unit) r (h agent) (record {
          copies = λ p e done. (may p e done).copies;
          sends = λ p e done. All-weaker (IsSentBy ways s.unit) (IsSentOf s.unit) (λ sent by. by.fits) r.deeds.sends sends;
        }) before.leave;
        next = λ m next. (let done = next_done r.number r.after r.verdict m next in subst (MayCarry s.unit code agent) (sym done.2) (may m.point m.start done.0));
      }

  keeps : (dates agent : ℕ) → Keeps agent (history s dates agent)
  keeps = at_each_date s (λ date. Keeps) (λ agent. record { leave = All-nil (LeavesFit s.unit); next = λ n is. run.opened.carries agent n is }) (λ date agent actions kept. kept) (λ date agent n all is at. keeps_more date agent n all is at)

  pub values_fit : (dates variable date : ℕ) → FitsSigned w32 (published s (history s dates) variable date)
  values_fit dates variable date =
      published_fits s run.opened.committed run.opened.published (λ stream. All-weaker (IsHeldBefore s stream) MessageFits (λ m is. is.value) (s.opening.messages stream) (run.opened.messages stream).each) run.inputs.values run.inits
      (history s dates) (λ a. (keeps dates a).leave) variable date s.opening.dates

  pub firsts_fit : (variable : ℕ) → FitsSigned w32 (variable_of s variable).init
  firsts_fit variable =
      init_fits s run.opened.committed run.opened.published (λ stream. All-weaker (IsHeldBefore s stream) MessageFits (λ m is. is.value) (s.opening.messages stream) (run.opened.messages stream).each) run.inputs.values run.inits variable
