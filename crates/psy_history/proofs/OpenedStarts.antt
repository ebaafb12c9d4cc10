-- No action of an opened history starts before the last date that was done before.
use Rattle.std.proofs.Common.{◌≡◌, ℕ, suc, ◌≤◌, List, [], ◌∷◌, Some, ap, inl, inr, arith}
use Rattle.std.specs.List.{All, Contains}
use Rattle.std.proofs.lemmas.List.Elements.{All-head, All-tail}
use Rattle.psy_lists.proofs.lemmas.Members.{contains_none, front_or_behind}
use Rattle.psy_history.specs.Actions.{Action, Next, System, next_of}
use Rattle.psy_history.specs.History.{history}
use Rattle.psy_history.specs.Regular.{IsLawful, IsRegular, WereStarted}
use Rattle.psy_history.proofs.Growth.{next_done}

module _ (s : System) (ahead : (agent : ℕ) (n : Next) → s.opening.starts agent ≡ Some n → s.opening.dates ≤ suc n.start) (dates agent : ℕ) where
  -- where the next one starts
  next_behind : (actions : List Action) → WereStarted s dates agent actions → All (IsRegular s agent) actions → (n : Next) → next_of s agent actions ≡ Some n → s.opening.dates ≤ suc n.start
  next_behind [] were all n is = ahead agent n is
  next_behind (r ∷ before) (was, were) all n is =
      let earlier = next_behind before were (All-tail (IsRegular s agent) r before all) was.next was.is_next in
      let start : r.start ≡ was.next.start = ap (λ (q : Action). q.start) was.made in
      let regular = All-head (IsRegular s agent) r before all in
      let ends = regular.ends n.point n.start (next_done r.number r.after r.verdict n is).0 in
      omega (arith, earlier, start, regular.due, ends.2)

  each_behind : (actions : List Action) → WereStarted s dates agent actions → All (IsRegular s agent) actions → (x : Action) → Contains actions x → s.opening.dates ≤ suc x.start
  each_behind [] were all x c = absurd (contains_none x c)
  each_behind (r ∷ before) (was, were) all x c = elim (front_or_behind r before x c) [
    | inl e ↦ (
        let start : r.start ≡ was.next.start = ap (λ (q : Action). q.start) was.made in
        let same : r.start ≡ x.start = ap (λ (q : Action). q.start) e in
        omega (arith, start, same, next_behind before were (All-tail (IsRegular s agent) r before all) was.next was.is_next))
    | inr behind ↦ each_behind before were (All-tail (IsRegular s agent) r before all) x behind
  ]

  -- So each one starts at that date, or behind it.
  pub start_behind : IsLawful s → (x : Action) → Contains (history s dates agent) x → s.opening.dates ≤ suc x.start
  start_behind lawful x c = (let are = lawful.actions dates agent in each_behind (history s dates agent) are.were_started are.each x c)
