-- Where the actions of a lawful system start, one behind the other.
use Rattle.std.proofs.Common.{◌≡◌, ℕ, zero, suc, ◌<◌, ◌≤◌, List, [], ◌∷◌, drop, Some, sym, ap, ◌∙◌, subst, inl, inr, arith}
use Rattle.std.specs.List.{All, Contains}
use Rattle.std.proofs.lemmas.List.Elements.{All-head, All-tail}
use Rattle.psy_lists.proofs.lemmas.Members.{contains_none, contains_behind, front_or_behind}
use Rattle.psy_history.specs.Actions.{Action, Next, System, next_of}
use Rattle.psy_history.specs.History.{action_of, history}
use Rattle.psy_history.specs.Regular.{IsLawful, IsRegular, WereStarted}
use Rattle.psy_history.proofs.Growth.{grown, next_done}

module _ (s : System) (lawful : IsLawful s) where
  pub regular_head : (date agent : ℕ) (r : Action) (before : List Action) → history s date agent ≡ r ∷ before → IsRegular s agent r
  regular_head date agent r before e = All-head (IsRegular s agent) r before (subst (All (IsRegular s agent)) e ((lawful.actions date agent).each))

  -- When so many dates are done, the next action starts no earlier.
  pub next_late : (date agent : ℕ) (n : Next) → next_of s agent (history s date agent) ≡ Some n → date ≤ n.start
  next_late zero agent n is = omega arith
  next_late (suc date) agent n is = elim (grown s date agent) [
    | inl (same, other) ↦ (
        let before = sym (ap (next_of s agent) same) ∙ is in
        let late = next_late date agent n before in
        let not : n.start ≡ date → ⊥ = other n before in
        omega (arith, late, not))
    | inr (m, next, at, more) ↦ (
        let r : Action = action_of s (history s date) agent m in
        let regular = regular_head (suc date) agent r (history s date agent) more in
        let done = next_done r.number r.after r.verdict n (sym (ap (next_of s agent) more) ∙ is) in
        let ends = regular.ends n.point n.start done.0 in
        omega (arith, regular.due, at, ends.2))
  ]

  pub ends_before : (dates agent : ℕ) (actions : List Action) → WereStarted s dates agent actions → All (IsRegular s agent) actions → (n : Next) → next_of s agent actions ≡ Some n → (x : Action) → Contains actions x → x.deadline ≤ n.start
  ends_before dates agent [] were all n is x c = absurd (contains_none x c)
  ends_before dates agent (r ∷ before) (was, were) all n is x c =
      let regular = All-head (IsRegular s agent) r before all in
      let ends = regular.ends n.point n.start (next_done r.number r.after r.verdict n is).0 in
      elim (front_or_behind r before x c) [
        | inl e ↦ (let same = ap (λ (y : Action). y.deadline) e in omega (arith, same, ends.2))
        | inr rest ↦ (
            let earlier = ends_before dates agent before were (All-tail (IsRegular s agent) r before all) was.next was.is_next x rest in
            let start : r.start ≡ was.next.start = ap (λ (y : Action). y.start) was.made in
            omega (arith, earlier, start, regular.due, ends.2))
      ]

  behind_due : (dates agent : ℕ) (actions : List Action) → WereStarted s dates agent actions → All (IsRegular s agent) actions → (x : Action) → Contains (drop 1 actions) x → x.deadline < dates
  behind_due dates agent [] were all x c = absurd (contains_none x c)
  behind_due dates agent (r ∷ before) (was, were) all x c =
      let earlier = ends_before dates agent before were (All-tail (IsRegular s agent) r before all) was.next was.is_next x c in
      omega (arith, earlier, was.at)

  behind_there : (actions : List Action) (x : Action) → Contains (drop 1 actions) x → Contains actions x
  behind_there [] x c = c
  behind_there (r ∷ before) x c = contains_behind r before x c

  -- Actions behind the last one were there a date before, and were due then.
  pub older_due : (date agent : ℕ) (x : Action) → Contains (drop 1 (history s (suc date) agent)) x → Contains (history s date agent) x × (x.deadline ≤ date)
  older_due date agent x c =
      let are = lawful.actions (suc date) agent in
      let due = behind_due (suc date) agent (history s (suc date) agent) are.were_started are.each x c in
      (there, omega (arith, due))
    where
      there : Contains (history s date agent) x
      there = elim (grown s date agent) [
        | inl (same, other) ↦ behind_there (history s date agent) x (subst (λ xs. Contains (drop 1 xs) x) same c)
        | inr (n, next, at, more) ↦ subst (λ xs. Contains (drop 1 xs) x) more c
      ]
