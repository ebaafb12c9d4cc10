-- How the history of an agent begins, and grows by a date.
use Rattle.std.proofs.Common.{◌≡◌, ◌⊎◌, ℕ, zero, suc, ◌+◌, ◌<◌, ◌≤◌, List, [], ◌∷◌, length, Option, Some, None, refl, sym, ap, ◌∙◌, subst, inl, inr, arith}
use Rattle.std.specs.Prelude.{◌==◌, ℤ, slice_get}
use Rattle.std.specs.List.{Contains}
use Rattle.std.proofs.lemmas.Bool.{cases_Bool, cases_lt, eqb-false, eqb-true}
use Rattle.std.proofs.lemmas.Option.{none-some, same_Some, slice_get_within}
use Rattle.psy_lists.proofs.lemmas.Members.{contains_behind}
use Rattle.psy_budget.specs.declared.charge.Stall.{Stall}
use Rattle.psy_code.specs.Views.{found_in}
use Rattle.psy_tree.specs.declared.unit.AgentDecl.{AgentDecl}
use Rattle.psy_tree.specs.declared.unit.Unit.{Unit as Whole}
use Rattle.psy_history.specs.Actions.{Action, History, Next, System, Verdict, Done, Trapped, Overran, first_action, from_start, next_by, next_of}
use Rattle.psy_history.specs.Executors.{Carried, Executor}
use Rattle.psy_history.specs.History.{action_of, history, with_start}

-- ---- the next action

-- At date 0 it is the first one of an agent that there is
pub opens_with : (unit : Whole) (nexts : List (List (List ℕ))) (executor : Executor) (stalls : ℕ → List Stall) (inputs : List (List ℤ)) (agent : ℕ) (n : Next) → (from_start unit nexts executor stalls inputs).opening.starts agent ≡ Some n
    → (agent < length unit.agents) × (first_action unit nexts executor agent ≡ n)
opens_with unit nexts executor stalls inputs agent n e = from (slice_get unit.agents agent) refl e
  where
    from : (o : Option AgentDecl) → slice_get unit.agents agent ≡ o → found_in o (λ a. Some (first_action unit nexts executor agent)) ≡ Some n → (agent < length unit.agents) × (first_action unit nexts executor agent ≡ n)
    from None at h = absurd (none-some n h)
    from (Some a) at h = (slice_get_within unit.agents agent a at, same_Some (first_action unit nexts executor agent) n h)

-- Only an action that is done is followed by another
pub next_done : (number : ℕ) (carried : Carried) (verdict : Verdict) (n : Next) → next_by number carried verdict ≡ Some n → (verdict ≡ Done n.point n.start) × (n.number ≡ number + 1) × (n.carried ≡ carried)
next_done number carried (Done point end) n e =
    let is = same_Some _ n e in
    (ap (λ (m : Next). Done m.point m.start) is, sym (ap (λ (m : Next). m.number) is), sym (ap (λ (m : Next). m.carried) is))
next_done number carried (Trapped kind) n e = absurd (none-some n e)
next_done number carried Overran n e = absurd (none-some n e)

-- ---- one date

-- What a date does to an agent's actions: none starts, or the next one, where this is its date.
abbrev pub IsGrown : System → ℕ → ℕ → Type 0
IsGrown s date agent =
    ((history s (suc date) agent ≡ history s date agent) × ((n : Next) → next_of s agent (history s date agent) ≡ Some n → n.start ≡ date → ⊥))
    ⊎ ((n : Next) × (next_of s agent (history s date agent) ≡ Some n) × (n.start ≡ date) × (history s (suc date) agent ≡ action_of s (history s date) agent n ∷ history s date agent))

grown_by : (s : System) (h : History) (date agent : ℕ) (actions : List Action) (o : Option Next) →
    ((with_start s h date agent actions o ≡ actions) × ((n : Next) → o ≡ Some n → n.start ≡ date → ⊥))
    ⊎ ((n : Next) × (o ≡ Some n) × (n.start ≡ date) × (with_start s h date agent actions o ≡ action_of s h agent n ∷ actions))
grown_by s h date agent actions None = inl (refl, λ n e. cc)
grown_by s h date agent actions (Some n) = elim (cases_Bool (n.start == date)) [
  | inl t ↦ inr (n, refl, eqb-true n.start date t, rw t refl)
  | inr t ↦ inl (rw t refl, λ m e at. eqb-false n.start date t (ap (λ (x : Next). x.start) (same_Some n m e) ∙ at))
]

pub grown : (s : System) (date agent : ℕ) → IsGrown s date agent
grown s date agent = grown_by s (history s date) date agent (history s date agent) (next_of s agent (history s date agent))

-- Where the next one's date is this, it starts.
pub started : (s : System) (date agent : ℕ) (n : Next) → next_of s agent (history s date agent) ≡ Some n → n.start ≡ date → history s (suc date) agent ≡ action_of s (history s date) agent n ∷ history s date agent
started s date agent n next at = elim (grown s date agent) [
  | inl (same, other) ↦ absurd (other n next at)
  | inr (m, next', at', more) ↦ more ∙ ap (λ k. action_of s (history s date) agent k ∷ history s date agent) (same_Some m n (sym next' ∙ next))
]

-- ---- many dates

-- What holds of no actions, and is kept by each date, holds at each date.
module _ (s : System) (P : ℕ → ℕ → List Action → Type 0) (none : (agent : ℕ) → P 0 agent []) (same : (date agent : ℕ) (actions : List Action) → P date agent actions → P (suc date) agent actions)
    (more : (date agent : ℕ) (n : Next) → ((agent : ℕ) → P date agent (history s date agent)) → next_of s agent (history s date agent) ≡ Some n → n.start ≡ date → P (suc date) agent (action_of s (history s date) agent n ∷ history s date agent)) where
  pub at_each_date : (dates agent : ℕ) → P dates agent (history s dates agent)
  at_each_date zero agent = none agent
  at_each_date (suc date) agent = elim (grown s date agent) [
    | inl (is, other) ↦ subst (P (suc date) agent) (sym is) (same date agent (history s date agent) (at_each_date date agent))
    | inr (n, next, at, is) ↦ subst (P (suc date) agent) (sym is) (more date agent n (at_each_date date) next at)
  ]

one_date_more : (s : System) (date agent : ℕ) (r : Action) → Contains (history s date agent) r → Contains (history s (suc date) agent) r
one_date_more s date agent r c = elim (grown s date agent) [
  | inl (same, other) ↦ subst (λ xs. Contains xs r) (sym same) c
  | inr (n, next, at, more) ↦ subst (λ xs. Contains xs r) (sym more) (contains_behind (action_of s (history s date) agent n) (history s date agent) r c)
]

-- What a step keeps, more steps keep
pub kept_on : (P : ℕ → Type 0) → ((n : ℕ) → P n → P (suc n)) → (some more : ℕ) → some ≤ more → P some → P more
kept_on P step some zero l h = (let same : some ≡ 0 = omega (arith, l) in subst P same h)
kept_on P step some (suc more) l h = elim (cases_lt more some) [
  | inl above ↦ (let same : some ≡ suc more = omega (arith, l, above) in subst P same h)
  | inr below ↦ step more (kept_on P step some more below h)
]

-- An action that was started stays
pub stays_started : (s : System) (date later agent : ℕ) (r : Action) → date ≤ later → Contains (history s date agent) r → Contains (history s later agent) r
stays_started s date later agent r l c = kept_on (λ n. Contains (history s n agent) r) (λ n. one_date_more s n agent r) date later l c
