-- How an action of a lawful system was started.
use Rattle.std.proofs.Common.{◌≡◌, ℕ, suc, ◌<◌, List, [], ◌∷◌, ap, subst, inl, inr, sym, ◌∙◌, arith, Some}
use Rattle.std.specs.List.{Contains}
use Rattle.psy_lists.proofs.lemmas.Members.{contains_none, front_or_behind, contains_front}
use Rattle.psy_history.specs.Actions.{Action, System, Next, next_of}
use Rattle.psy_history.specs.History.{history, action_of}
use Rattle.psy_history.specs.Regular.{IsLawful, WasStarted, WereStarted}
use Rattle.psy_legal.proofs.Growth.{at_each_date, grown}
use Rattle.std.proofs.lemmas.Option.{same_Some}

one_started : (s : System) (dates agent : ℕ) (actions : List Action) (r : Action) → WereStarted s dates agent actions → Contains actions r → (before : List Action) × WasStarted s dates agent before r
one_started s dates agent [] r were c = absurd (contains_none r c)
one_started s dates agent (p ∷ before) r (was, were) c = elim (front_or_behind p before r c) [
  | inl e ↦ (before, subst (WasStarted s dates agent before) e was)
  | inr there ↦ one_started s dates agent before r were there
]

module _ (s : System) (lawful : IsLawful s) (dates agent : ℕ) (r : Action) (there : Contains (history s dates agent) r) where
  pub was_started : (before : List Action) × WasStarted s dates agent before r
  was_started = one_started s dates agent (history s dates agent) r (lawful.actions dates agent).were_started there

  pub start_below : r.start < dates
  start_below =
      let was = was_started.1 in
      let start : r.start ≡ was.next.start = ap (λ (q : Action). q.start) was.made in
      omega (arith, start, was.at)

-- ---- an action that was started is there from its start on

pub started_by : (s : System) (dates agent : ℕ) (r : Action) → Contains (history s dates agent) r → Contains (history s (suc r.start) agent) r
started_by s = at_each_date s (λ date agent actions. (r : Action) → Contains actions r → Contains (history s (suc r.start) agent) r) (λ agent r c. absurd (contains_none r c)) (λ date agent actions h. h) (λ date agent n before next at r c.
    elim (front_or_behind (action_of s (history s date) agent n) (history s date agent) r c) [
      | inl is ↦ subst (λ (q : Action). Contains (history s (suc q.start) agent) q) is (subst (λ d. Contains (history s (suc d) agent) (action_of s (history s date) agent n)) (sym at) (first date agent n next at))
      | inr behind ↦ before agent r behind
    ])
  where
    first : (date agent : ℕ) (n : Next) → next_of s agent (history s date agent) ≡ Some n → n.start ≡ date → Contains (history s (suc date) agent) (action_of s (history s date) agent n)
    first date agent n next at = elim (grown s date agent) [
      | inl (is, other) ↦ absurd (other n next at)
      | inr (m, next', at', is) ↦ subst (λ xs. Contains xs (action_of s (history s date) agent n)) (sym is) (subst (λ k. Contains (action_of s (history s date) agent k ∷ history s date agent) (action_of s (history s date) agent n)) (same_Some n m (sym next ∙ next')) (contains_front (action_of s (history s date) agent n) (history s date agent)))
    ]
