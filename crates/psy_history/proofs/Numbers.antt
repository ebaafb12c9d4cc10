-- The numbers of an agent's actions, from that of its first one on: they tell one action from the others, whatever the dates.
use Rattle.std.proofs.Common.{◌≡◌, ℕ, suc, ◌+◌, ◌<◌, ◌≤◌, List, [], ◌∷◌, length, Some, sym, ap, ◌∙◌, subst, inl, inr, arith}
use Rattle.std.specs.List.{Contains}
use Rattle.psy_lists.proofs.lemmas.Members.{contains_none, front_or_behind}
use Rattle.psy_history.specs.Actions.{Action, Next, System, next_of}
use Rattle.psy_history.specs.History.{action_of, history}
use Rattle.psy_history.specs.Regular.{WereStarted, first_number, number_of as number_in}
use Rattle.psy_history.proofs.Growth.{at_each_date, next_done, stays_started}

-- ---- actions that were started

number_below : (s : System) (dates agent : ℕ) (actions : List Action) (r : Action) → WereStarted s dates agent actions → Contains actions r → r.number < first_number s agent + length actions
number_below s dates agent [] r were c = absurd (contains_none r c)
number_below s dates agent (p ∷ before) r (was, were) c = elim (front_or_behind p before r c) [
  | inl e ↦ subst (λ (q : Action). q.number < first_number s agent + suc (length before)) e (omega (arith, was.number))
  | inr there ↦ omega (arith, number_below s dates agent before r were there)
]

-- and no lower than that of the first
number_from : (s : System) (dates agent : ℕ) (actions : List Action) (r : Action) → WereStarted s dates agent actions → Contains actions r → first_number s agent ≤ r.number
number_from s dates agent [] r were c = absurd (contains_none r c)
number_from s dates agent (p ∷ before) r (was, were) c = elim (front_or_behind p before r c) [
  | inl e ↦ subst (λ (q : Action). first_number s agent ≤ q.number) e (omega (arith, was.number))
  | inr there ↦ number_from s dates agent before r were there
]

agent_is : (s : System) (dates agent : ℕ) (actions : List Action) (r : Action) → WereStarted s dates agent actions → Contains actions r → r.agent ≡ agent
agent_is s dates agent [] r were c = absurd (contains_none r c)
agent_is s dates agent (p ∷ before) r (was, were) c = elim (front_or_behind p before r c) [
  | inl e ↦ ap (λ (q : Action). q.agent) (sym e ∙ was.made)
  | inr there ↦ agent_is s dates agent before r were there
]

same_number : (s : System) (dates agent : ℕ) (actions : List Action) (r q : Action) → WereStarted s dates agent actions → Contains actions r → Contains actions q → r.number ≡ q.number → r ≡ q
same_number s dates agent [] r q were c d e = absurd (contains_none r c)
same_number s dates agent (p ∷ before) r q (was, were) c d e = elim (front_or_behind p before r c) [
  | inl first ↦ elim (front_or_behind p before q d) [
    | inl second ↦ sym first ∙ second
    | inr there ↦ absurd (omega (arith, number_below s dates agent before q were there, was.number, ap (λ (x : Action). x.number) first, e))
  ]
  | inr there ↦ elim (front_or_behind p before q d) [
    | inl second ↦ absurd (omega (arith, number_below s dates agent before r were there, was.number, ap (λ (x : Action). x.number) second, e))
    | inr also ↦ same_number s dates agent before r q were there also e
  ]
]

-- Those that were started by a date were by the next one
were_later : (s : System) (date agent : ℕ) (actions : List Action) → WereStarted s date agent actions → WereStarted s (suc date) agent actions
were_later s date agent [] were = were
were_later s date agent (r ∷ before) (was, were) =
    (record { next = was.next; is_next = was.is_next; at = omega (arith, was.at); made = was.made; number = was.number }, were_later s date agent before were)

-- No more than one starts a date
pub few : (s : System) (dates agent : ℕ) → length (history s dates agent) ≤ dates
few s = at_each_date s (λ dates agent actions. length actions ≤ dates) (λ agent. omega arith) (λ date agent actions few. omega (arith, few)) (λ date agent n few next at. omega (arith, few agent))

-- ---- the actions of a system

module _ (s : System) where
  pub next_number : (dates agent : ℕ) (actions : List Action) (n : Next) → WereStarted s dates agent actions → next_of s agent actions ≡ Some n → n.number ≡ first_number s agent + length actions
  next_number dates agent [] n were e = (let is = ap number_in e in omega (arith, is))
  next_number dates agent (r ∷ before) n (was, were) e = omega (arith, (next_done r.number r.after r.verdict n e).1, was.number)

  pub were_started : (dates agent : ℕ) → WereStarted s dates agent (history s dates agent)
  were_started = at_each_date s (WereStarted s) (λ agent. tt {0}) (were_later s) (λ date agent n were next at.
      let number = next_number date agent (history s date agent) n (were agent) next in
      let made = ap (λ d. action_of s (history s d) agent n) (sym at) in
      (record { next = n; is_next = next; at = omega (arith, at); made = made; number = number }, were_later s date agent (history s date agent) (were agent)))

  pub agent_of : (dates agent : ℕ) (r : Action) → Contains (history s dates agent) r → r.agent ≡ agent
  agent_of dates agent r c = agent_is s dates agent (history s dates agent) r (were_started dates agent) c

  pub number_of : (dates agent : ℕ) (r : Action) → Contains (history s dates agent) r → r.number < first_number s agent + length (history s dates agent)
  number_of dates agent r c = number_below s dates agent (history s dates agent) r (were_started dates agent) c

  pub number_since : (dates agent : ℕ) (r : Action) → Contains (history s dates agent) r → first_number s agent ≤ r.number
  number_since dates agent r c = number_from s dates agent (history s dates agent) r (were_started dates agent) c

  -- of whatever dates, an agent has one action of a number
  pub one_of_number : (dates others agent : ℕ) (r q : Action) → Contains (history s dates agent) r → Contains (history s others agent) q → r.number ≡ q.number → r ≡ q
  one_of_number dates others agent r q c d e =
      let both = dates + others in
      same_number s both agent (history s both agent) r q (were_started both agent) (stays_started s dates both agent r (omega arith) c) (stays_started s others both agent q (omega arith) d) e
