-- How an action of a lawful system was started.
use Rattle.std.proofs.Common.{◌≡◌, ℕ, ◌<◌, List, [], ◌∷◌, ap, subst, inl, inr, arith}
use Rattle.std.specs.List.{Contains}
use Rattle.psy_lists.proofs.lemmas.Members.{contains_none, front_or_behind}
use Rattle.psy_history.specs.Actions.{Action, System}
use Rattle.psy_history.specs.History.{history}
use Rattle.psy_history.specs.Regular.{IsLawful, WasStarted, WereStarted}

one_started : (s : System) (dates agent : ℕ) (actions : List Action) (r : Action) → WereStarted s dates agent actions → Contains actions r → (before : List Action) × WasStarted s dates agent before r
one_started s dates agent [] r were c = absurd (contains_none r c)
one_started s dates agent (p ∷ before) r (was, were) c = elim (front_or_behind p before r c) [
  | inl e ↦ (before, subst (WasStarted s dates agent before) e was)
  | inr there ↦ one_started s dates agent before r were there
]

module _ (s : System) (lawful : IsLawful s) (dates agent : ℕ) (r : Action) (there : Contains (history s dates agent) r) where
  pub was_started : (before : List Action) × WasStarted s dates agent before r
  was_started = one_started s dates agent (history s dates agent) r (lawful.actions dates agent).were_started there

  pub start_below : r.start < dates
  start_below =
      let was = was_started.1 in
      let start : r.start ≡ was.next.start = ap (λ (q : Action). q.start) was.made in
      omega (arith, start, was.at)
