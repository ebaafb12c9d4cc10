-- Where the actions of a lawful system start, one behind the other.
use Rattle.std.proofs.Common.{◌≡◌, ℕ, zero, suc, ◌≤◌, List, ◌∷◌, Some, sym, ap, ◌∙◌, subst, inl, inr, arith}
use Rattle.std.specs.List.{All}
use Rattle.std.proofs.lemmas.List.Elements.{All-head}
use Rattle.psy_history.specs.Actions.{Action, Next, System, next_of}
use Rattle.psy_history.specs.History.{action_of, history}
use Rattle.psy_history.specs.Regular.{IsLawful, IsRegular}
use Rattle.psy_legal.proofs.Growth.{grown, next_done}

module _ (s : System) (lawful : IsLawful s) where
  pub regular_head : (date agent : ℕ) (r : Action) (before : List Action) → history s date agent ≡ r ∷ before → IsRegular s agent r
  regular_head date agent r before e = All-head (IsRegular s agent) r before (subst (All (IsRegular s agent)) e ((lawful.actions date agent).each))

  -- When so many dates are done, the next action starts no earlier.
  pub next_late : (date agent : ℕ) (n : Next) → next_of s agent (history s date agent) ≡ Some n → date ≤ n.start
  next_late zero agent n is = omega arith
  next_late (suc date) agent n is = elim (grown s date agent) [
    | inl (same, other) ↦ (
        let before = sym (ap (next_of s agent) same) ∙ is in
        let late = next_late date agent n before in
        let not : n.start ≡ date → ⊥ = other n before in
        omega (arith, late, not))
    | inr (m, next, at, more) ↦ (
        let r : Action = action_of s (history s date) agent m in
        let regular = regular_head (suc date) agent r (history s date agent) more in
        let done = next_done r.number r.after r.verdict n (sym (ap (next_of s agent) more) ∙ is) in
        let ends = regular.ends n.point n.start done.0 in
        omega (arith, regular.due, at, ends.2))
  ]
