-- Two histories of a program's statements that differ in their stalls: where the actions of all agents that reach an agent overran alike, the
-- agent's actions are the same but for their charges.
use Rattle.std.proofs.Common.{◌≡◌, ◌↔◌, ℕ, zero, suc, List, ◌∷◌, Option, Some, None, refl, sym, ap, ◌∙◌, subst, inl, inr, arith}
use Rattle.std.proofs.lemmas.Bool.{cases_Bool}
use Rattle.std.proofs.lemmas.List.Elements.{All-head}
use Rattle.std.specs.List.{All, Contains, count_by}
use Rattle.std.specs.Prelude.{ℤ, ◌==◌, Bool, true, false, if◌then◌else◌, nat_lt, take}
use Rattle.psy_lists.proofs.lemmas.Members.{contains_front}
use Rattle.psy_budget.specs.declared.charge.Stall.{Stall}
use Rattle.psy_code.specs.Views.{Deeds, View}
use Rattle.psy_tree.specs.declared.unit.Unit.{Unit as Whole}
use Rattle.psy_history.specs.Actions.{Action, History, Next, System, Verdict, Overran, charge_of, next_of, timing, verdict_by, verdict_of}
use Rattle.psy_history.specs.Executors.{Acted}
use Rattle.psy_tree.specs.Parts.{agent_at}
use Rattle.psy_history.specs.History.{action_of, history, with_start}
use Rattle.psy_meaning.specs.Timing.{Timing, budget_at}
use Rattle.psy_history.specs.Visible.{seen_at, view_of}
use Rattle.psy_history.specs.Compiled.{AreInputs, stated}
use Rattle.psy_history.specs.Feeding.{AreSame, IsSame, OverranAlike, Reaches}
use Rattle.psy_history.proofs.ActsAlike.{acts_alike}
use Rattle.psy_history.proofs.Growth.{stays_started}
use Rattle.psy_history.proofs.IsolatedViews.{messages_same, pasts_same, taken_same}
use Rattle.psy_history.proofs.SameActions.{next_same}
use Rattle.psy_history.proofs.StatedHistories.{AreTextLaws, IsOfAgent, all_of_text, next_known}

-- Verdicts that are the same but for an overrun are the same where both are overruns or neither is.
same_verdict : (b c : Bool) (v : Verdict) → ((if b then Overran else v) ≡ Overran) ↔ ((if c then Overran else v) ≡ Overran) → ◌≡◌ {A = Verdict} (if b then Overran else v) (if c then Overran else v)
same_verdict true true v alike = refl
same_verdict true false v alike = sym (alike.0 refl)
same_verdict false true v alike = alike.1 refl
same_verdict false false v alike = refl

-- Where the next action starts at a date, the history goes on with it.
goes_on : (s : System) (date agent : ℕ) (n : Next) → next_of s agent (history s date agent) ≡ Some n → (n.start == date) ≡ true → history s (suc date) agent ≡ action_of s (history s date) agent n ∷ history s date agent
goes_on s date agent n is now = ap (with_start s (history s date) date agent (history s date agent)) is ∙ rw now refl

module _ (unit : Whole) (nexts : List (List (List ℕ))) (stalls others : ℕ → List Stall) (inputs : List (List ℤ)) (laws : AreTextLaws unit) (given : AreInputs unit inputs) where
  abbrev these : System
  these = stated unit nexts stalls inputs

  abbrev those : System
  those = stated unit nexts others inputs

  -- The actions of each agent that reaches another overran alike in the two histories.
  abbrev AreAlike : ℕ → ℕ → Type 0
  AreAlike dates to = (from : ℕ) → Reaches unit to from → OverranAlike (history these dates from) (history those dates from)

  -- ---- one date

  module _ (date to : ℕ) (same : (from : ℕ) → Reaches unit to from → AreSame (history these date from) (history those date from)) (alike : AreAlike (suc date) to) (agent : ℕ) (reach : Reaches unit to agent) where
    abbrev h : History
    h = history these date

    abbrev k : History
    k = history those date

    module _ (n : Next) (is : next_of these agent (h agent) ≡ Some n) (now : (n.start == date) ≡ true) where
      abbrev times : Timing
      times = timing these agent

      abbrev budget : ℕ
      budget = budget_at times n.point

      abbrev r : Action
      r = action_of these h agent n

      abbrev q : Action
      q = action_of those k agent n

      abbrev view : View
      view = view_of these h agent n.start (seen_at these h n.start)

      abbrev other : View
      other = view_of those k agent n.start (seen_at those k n.start)

      -- What comes of the action is the same.
      acted_same : these.executor.act agent n.point n.carried view budget ≡ those.executor.act agent n.point n.carried other budget
      acted_same =
          let text = all_of_text unit nexts stalls inputs laws given date in
          let other_text = all_of_text unit nexts others inputs laws given date in
          acts_alike unit agent (agent_at unit agent) n.point n.carried view other budget laws.sound (next_known unit nexts stalls inputs laws given date agent n is)
          (messages_same unit nexts stalls others inputs h k text other_text to same agent reach n.start)
          (pasts_same unit nexts stalls others inputs h k text other_text to same agent reach n.start)

      -- It overran in both histories or in neither.
      overran_alike : (r.verdict ≡ Overran) ↔ (q.verdict ≡ Overran)
      overran_alike =
          let here : history these (suc date) agent ≡ r ∷ h agent = goes_on these date agent n is now in
          let there : history those (suc date) agent ≡ q ∷ k agent = goes_on those date agent n (sym (next_same unit nexts stalls others inputs agent (h agent) (k agent) (same agent reach)) ∙ is) now in
          alike agent reach r q (subst (λ xs. Contains xs r) (sym here) (contains_front r (h agent))) (subst (λ xs. Contains xs q) (sym there) (contains_front q (k agent))) refl

      verdict_same : r.verdict ≡ q.verdict
      verdict_same =
          let acted : Acted = these.executor.act agent n.point n.carried view budget in
          let back : verdict_of times n.start budget (charge_of those agent n.number acted.deeds.steps) acted.fate ≡ q.verdict =
          ap (λ (a : Acted). verdict_of times n.start budget (charge_of those agent n.number a.deeds.steps) a.fate) acted_same in
          same_verdict (nat_lt budget (charge_of these agent n.number acted.deeds.steps)) (nat_lt budget (charge_of those agent n.number acted.deeds.steps)) (verdict_by times n.start acted.fate)
          (subst (λ v. (r.verdict ≡ Overran) ↔ (v ≡ Overran)) (sym back) overran_alike)
          ∙ back

      -- It is the same but for its charge.
      action_same : IsSame r q
      action_same =
          let text = all_of_text unit nexts stalls inputs laws given in
          let other_text = all_of_text unit nexts others inputs laws given in
          let own : IsOfAgent unit agent r = All-head (IsOfAgent unit agent) r (h agent) (subst (λ xs. All (IsOfAgent unit agent) xs) (goes_on these date agent n is now) (text (suc date) agent)) in
          let deeds : r.deeds ≡ q.deeds = ap (λ (a : Acted). a.deeds) acted_same in
          record {
            agent = refl;
            number = refl;
            point = refl;
            start = refl;
            budget = refl;
            deadline = refl;
            before = refl;
            deeds = deeds;
            taken = λ stream.
                taken_same unit nexts stalls others inputs h k (text date) (other_text date) to same agent reach n.start stream r.deeds.takes own.takes
                ∙ ap (λ (d : Deeds). take (count_by (λ t. t == stream) d.takes) (q.seen stream)) deeds;
            verdict = verdict_same;
            after = ap (λ (a : Acted). a.carried) acted_same;
          }

    started_same : (o : Option Next) → next_of these agent (h agent) ≡ o → AreSame (with_start these h date agent (h agent) o) (with_start those k date agent (k agent) o)
    started_same None is = same agent reach
    started_same (Some n) is = elim (cases_Bool (n.start == date)) [
      | inl now ↦ (let both : AreSame (r n is now ∷ h agent) (q n is now ∷ k agent) = (action_same n is now, same agent reach) in rw now both)
      | inr later ↦ rw later (same agent reach)
    ]

    date_same : AreSame (history these (suc date) agent) (history those (suc date) agent)
    date_same =
        let next = next_of these agent (h agent) in
        subst (λ o. AreSame (with_start these h date agent (h agent) next) (with_start those k date agent (k agent) o)) (next_same unit nexts stalls others inputs agent (h agent) (k agent) (same agent reach)) (started_same next refl)

  -- ---- date by date

  -- What overran alike by a date did by the one before.
  alike_before : (date to : ℕ) → AreAlike (suc date) to → AreAlike date to
  alike_before date to alike from reach r q c d = alike from reach r q (stays_started these date (suc date) from r (omega arith) c) (stays_started those date (suc date) from q (omega arith) d)

  pub histories_same : (dates to : ℕ) → AreAlike dates to → (from : ℕ) → Reaches unit to from → AreSame (history these dates from) (history those dates from)
  histories_same zero to alike from reach = tt
  histories_same (suc date) to alike from reach = date_same date to (histories_same date to (alike_before date to alike)) alike from reach
