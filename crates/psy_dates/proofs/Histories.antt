-- What a date does to an agent's actions: it starts one, or none.
use Rattle.std.proofs.Common.{◌≡◌, ℕ, suc, ◌+◌, ◌≤◌, List, [], ◌∷◌, length, Some, None, refl, ap, subst, ◌∙◌, arith}
use Rattle.std.specs.Prelude.{◌==◌}
use Rattle.std.specs.List.{All}
use Rattle.std.proofs.lemmas.Bool.{cond-true, cond-false, eq-eqb, ne_eqb}
use Rattle.std.proofs.lemmas.List.Elements.{All-head}
use Rattle.psy_history.specs.Actions.{Action, Next, System, Verdict, Done, Trapped, Overran, next_by, next_of}
use Rattle.psy_history.specs.History.{action_of, history, with_start}
use Rattle.psy_history.specs.Regular.{IsLawful, IsRegular, WasStarted, WereStarted, first_number, number_of}

module _ (s : System) (date agent : ℕ) where
  pub starts : (n : Next) → next_of s agent (history s date agent) ≡ Some n → n.start ≡ date → history s (suc date) agent ≡ action_of s (history s date) agent n ∷ history s date agent
  starts n next at = ap (with_start s (history s date) date agent (history s date agent)) next ∙ cond-true (n.start == date) _ _ (eq-eqb n.start date at)

  pub stays : (n : Next) → next_of s agent (history s date agent) ≡ Some n → (n.start ≡ date → ⊥) → history s (suc date) agent ≡ history s date agent
  stays n next later = ap (with_start s (history s date) date agent (history s date agent)) next ∙ cond-false (n.start == date) _ _ (ne_eqb n.start date later)

  pub goes_on : next_of s agent (history s date agent) ≡ None → history s (suc date) agent ≡ history s date agent
  goes_on next = ap (with_start s (history s date) date agent (history s date agent)) next

module _ (s : System) (lawful : IsLawful s) (date agent : ℕ) (r : Action) (before : List Action) (is : history s date agent ≡ r ∷ before) where
  pub is_regular : IsRegular s agent r
  is_regular = All-head (IsRegular s agent) r before (subst (All (IsRegular s agent)) is (lawful.actions date agent).each)

  pub was_started : WasStarted s date agent before r
  was_started = (subst (WereStarted s date agent) is (lawful.actions date agent).were_started).0

  pub few : suc (length before) ≤ date
  few = omega (arith, (lawful.actions date agent).few, ap length is)

-- The number of an agent's next action
module _ (s : System) (lawful : IsLawful s) (date agent : ℕ) where
  behind : (r : Action) (before : List Action) (n : Next) (v : Verdict) → r.verdict ≡ v → next_by r.number r.after v ≡ Some n → r.number ≡ first_number s agent + length before → first_number s agent + suc (length before) ≤ n.number
  behind r before n (Done point end) verdict next number = (let is : r.number + 1 ≡ n.number = cc in omega (arith, is, number))
  behind r before n (Trapped kind) verdict next number = cc
  behind r before n Overran verdict next number = cc

  pub numbered : (n : Next) → next_of s agent (history s date agent) ≡ Some n → first_number s agent + length (history s date agent) ≤ n.number
  numbered n = from (history s date agent) refl
    where
      from : (actions : List Action) → history s date agent ≡ actions → next_of s agent actions ≡ Some n → first_number s agent + length actions ≤ n.number
      from [] is next = (let first = ap number_of next in omega (arith, first))
      from (r ∷ before) is next = behind r before n r.verdict refl next (was_started s lawful date agent r before is).number
