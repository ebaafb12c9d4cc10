-- What a whole run leaves of its agents at a quiet date: each that isn't silent starts there, or hasn't begun.
use Rattle.std.proofs.Common.{◌≡◌, ◌⊎◌, ℕ, suc, ◌+◌, ◌<◌, ◌≤◌, true, false, not, List, [], ◌∷◌, length, Option, Some, None, refl, sym, ap, ◌∙◌, subst, inl, inr, arith}
use Rattle.std.specs.Prelude.{◌&&◌, nat_le}
use Rattle.std.specs.List.{Contains}
use Rattle.std.proofs.lemmas.Bool.{and_cases, cases_lt, cond-true, le-leb, not-false}
use Rattle.std.proofs.lemmas.List.Elements.{All-contains}
use Rattle.psy_base.specs.declared.limits.TheConstants.{UNTIL}
use Rattle.psy_code.specs.declared.code.Code.{Code}
use Rattle.psy_lists.proofs.lemmas.Members.{contains_front}
use Rattle.psy_meaning.specs.KnownWays.{Ways}
use Rattle.psy_meaning.specs.Timing.{first_date}
use Rattle.psy_history.specs.Actions.{Action, Next, System, Verdict, Done, Trapped, Overran, is_done, next_by, next_of, rests, timing, variable_of}
use Rattle.psy_history.specs.Executors.{Carried, copy_in}
use Rattle.psy_history.specs.History.{action_of, history}
use Rattle.psy_history.specs.Openings.{IsBegun, IsWaiting}
use Rattle.psy_history.specs.Regular.{IsLawful, first_number, number_of as number_in}
use Rattle.psy_history.specs.Resuming.{IsQuiet, committed_at, resumed_at}
use Rattle.psy_history.specs.Runs.{IsRun}
use Rattle.psy_history.specs.Visible.{commit, committed_in}
use Rattle.psy_history.proofs.Growth.{at_each_date, next_done, started}
use Rattle.psy_history.proofs.NextStarts.{next_late, regular_head}
use Rattle.psy_history.proofs.Numbers.{few, next_number, were_started}
use Rattle.psy_history.proofs.OldActions.{old_due, old_ended}

-- An action that reached a point is followed by another.
followed : (number : ℕ) (carried : Carried) (v : Verdict) → is_done v ≡ true → (n : Next) × (next_by number carried v ≡ Some n)
followed number carried (Done point end) done = (record { number = number + 1; point = point; start = end; carried = carried }, refl)
followed number carried (Trapped kind) done = absurd cc
followed number carried Overran done = absurd cc

module _ (s : System) (ways : Ways) (code : Code) (run : IsRun s ways code) (lawful : IsLawful s) (sizes : List ℕ) (order : ℕ → List ℕ) (date : ℕ)
    (quiet : IsQuiet s date) (none : s.opening.dates ≡ 0) where
  abbrev t : System
  t = resumed_at s sizes order date

  -- ---- whole runs

  -- Where the history begins each agent waits for its first date.
  first_waits : (agent : ℕ) (n : Next) → s.opening.starts agent ≡ Some n → IsWaiting s agent n
  first_waits agent n is = elim (run.opened.places agent n is) [
    | inl begun ↦ absurd (omega (arith, begun.last, none))
    | inr waits ↦ waits
  ]

  number_none : (agent : ℕ) (o : Option Next) → s.opening.starts agent ≡ o → number_in o ≡ 0
  number_none agent None is = refl
  number_none agent (Some n) is = ap (λ (m : Next). m.number) (first_waits agent n is).first

  -- So no agent starts before its first date.
  start_from : (dates agent : ℕ) (n : Next) → next_of s agent (history s dates agent) ≡ Some n → first_date (timing s agent) ≤ n.start
  start_from = at_each_date s (λ dates agent actions. (n : Next) → next_of s agent actions ≡ Some n → first_date (timing s agent) ≤ n.start)
      (λ agent n is. omega (arith, ap (λ (m : Next). m.start) (first_waits agent n is).first))
      (λ date agent actions h. h) more
    where
      more : (date agent : ℕ) (n : Next) → ((agent : ℕ) (m : Next) → next_of s agent (history s date agent) ≡ Some m → first_date (timing s agent) ≤ m.start)
          → next_of s agent (history s date agent) ≡ Some n → n.start ≡ date → (m : Next)
          → next_of s agent (action_of s (history s date) agent n ∷ history s date agent) ≡ Some m → first_date (timing s agent) ≤ m.start
      more date agent n before next at m is =
          let r : Action = action_of s (history s date) agent n in
          let grown : history s (suc date) agent ≡ r ∷ history s date agent = started s date agent n next at in
          let regular = regular_head s lawful (suc date) agent r (history s date agent) grown in
          let ends = regular.ends m.point m.start (next_done r.number r.after r.verdict m is).0 in
          omega (arith, before agent n next, regular.due, ends.2)

  -- ---- each agent

  module _ (agent : ℕ) where
    abbrev actions : List Action
    actions = history s date agent

    in_front : (r : Action) (before : List Action) → actions ≡ r ∷ before → Contains actions r
    in_front r before e = subst (λ xs. Contains xs r) (sym e) (contains_front r before)

    begins_by : (its : List Action) → actions ≡ its → rests (s.opening.silent agent) date its ≡ false → agent < length s.unit.agents
        → (n : Next) × (next_of s agent its ≡ Some n)
    begins_by [] e loud less = run.opened.begins agent less loud
    begins_by (r ∷ before) e loud less =
        let due = le-leb r.deadline date (All-contains (λ (x : Action). x.deadline ≤ date) actions r (old_due s lawful date quiet agent) (in_front r before e)) in
        elim (and_cases (not (is_done r.verdict)) (nat_le r.deadline date) loud) [
          | inl done ↦ followed r.number r.after r.verdict (not-false (is_done r.verdict) done)
          | inr late ↦ (let no : true ≡ false = sym due ∙ late in absurd cc)
        ]

    -- One that isn't silent starts an action.
    pub left_begins : agent < length s.unit.agents → t.opening.silent agent ≡ false → (n : Next) × (t.opening.starts agent ≡ Some n)
    left_begins less loud = begins_by actions refl loud less

    module _ (n : Next) where
      known_by : (its : List Action) → actions ≡ its → next_of s agent its ≡ Some n
          → (agent < length s.unit.agents) × (rests (s.opening.silent agent) date its ≡ false)
      known_by [] e is = run.opened.known agent n is
      known_by (r ∷ before) e is =
          let done = (next_done r.number r.after r.verdict n is).0 in
          ((regular_head s lawful date agent r before e).known, ap (λ v. not (is_done v) && nat_le r.deadline date) done)

      -- One that starts an action is known, and isn't silent.
      pub left_known : t.opening.starts agent ≡ Some n → (agent < length s.unit.agents) × (t.opening.silent agent ≡ false)
      left_known is = known_by actions refl is

      module _ (near : date ≤ UNTIL) (copies : (variable : ℕ) → (variable_of s variable).owner ≡ Some agent
          → copy_in (s.executor.first agent) variable ≡ (variable_of s variable).init) where
        -- what its variables committed
        committed_by : (its : List Action) → actions ≡ its → (variable : ℕ) → (variable_of s variable).owner ≡ Some agent
            → t.opening.committed variable ≡ committed_in s variable date its
        committed_by its e variable owned = ap (committed_at s date variable) owned ∙ ap (committed_in s variable date) e

        waits_on : actions ≡ [] → s.opening.starts agent ≡ Some n → IsBegun t agent n ⊎ IsWaiting t agent n
        waits_on e is =
            let waits = first_waits agent n is in
            let late = next_late s lawful date agent n (ap (next_of s agent) e ∙ is) in
            let first : (variable : ℕ) → (variable_of s variable).owner ≡ Some agent → t.opening.committed variable ≡ (variable_of s variable).init =
            λ variable owned. committed_by [] e variable owned ∙ waits.committed variable owned in
            elim (cases_lt date n.start) [
              | inl behind ↦ inr (record { first = waits.first; ahead = behind; committed = first })
              | inr here ↦ inl (record {
                last = omega (arith, late, here);
                first = omega (arith, ap (λ (m : Next). m.start) waits.first);
                number = omega (arith, ap (λ (m : Next). m.number) waits.first);
                committed = λ variable owned. first variable owned ∙ sym (copies variable owned) ∙ sym (ap (λ (m : Next). copy_in m.carried variable) waits.first);
              })
            ]

        goes_on : (r : Action) (before : List Action) → actions ≡ r ∷ before → next_by r.number r.after r.verdict ≡ Some n → IsBegun t agent n
        goes_on r before e is =
            let (done, number, carried) = next_done r.number r.after r.verdict n is in
            let next : next_of s agent actions ≡ Some n = ap (next_of s agent) e ∙ is in
            let late = next_late s lawful date agent n next in
            let early : n.start ≤ date = old_ended s lawful date quiet agent n.point n.start r (in_front r before e) done in
            let counted = next_number s date agent actions n (were_started s date agent) next in
            let from : first_number s agent ≡ 0 = number_none agent (s.opening.starts agent) refl in
            record {
              last = omega (arith, late, early);
              first = start_from date agent n next;
              number = omega (arith, counted, from, few s date agent, near);
              committed = λ variable owned. committed_by (r ∷ before) e variable owned
                  ∙ ap (commit variable date r.after (committed_in s variable date before)) done
                  ∙ cond-true (nat_le n.start date) _ _ (le-leb n.start date early)
                  ∙ sym (ap (λ carried. copy_in carried variable) carried);
            }

        places_by : (its : List Action) → actions ≡ its → next_of s agent its ≡ Some n → IsBegun t agent n ⊎ IsWaiting t agent n
        places_by [] e is = waits_on e is
        places_by (r ∷ before) e is = inl (goes_on r before e is)

        -- It starts at the date, or hasn't begun.
        pub left_places : t.opening.starts agent ≡ Some n → IsBegun t agent n ⊎ IsWaiting t agent n
        left_places is = places_by actions refl is
