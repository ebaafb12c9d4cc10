-- Which action a cycle goes to.
use Rattle.std.proofs.Common.{ℕ, ◌<◌, ◌≤◌, List, [], ◌∷◌, Option, Some, None, subst, inl, inr, arith}
use Rattle.std.specs.Prelude.{nat_le, filter}
use Rattle.std.specs.List.{Contains}
use Rattle.std.proofs.lemmas.Bool.{cases_Bool, leb-true, leb-false, ltb-true}
use Rattle.psy_lists.proofs.lemmas.Members.{contains_none, contains_front, contains_behind, front_or_behind, filter_from, flat_map_from}
use Rattle.psy_history.specs.Actions.{Action, History}
use Rattle.psy_history.specs.Schedule.{Turn, is_pending, pending, soonest, sooner, units, work}

-- ---- pending actions

pub pending_from : (order : List ℕ) (turns : List (Option Turn)) (h : History) (r : Action) → Contains (pending order turns h) r → (agent : ℕ) × Contains order agent × Contains (h agent) r × (units r.agent r.number turns < work r)
pending_from order turns h r c =
    let (agent, known, there) = flat_map_from (λ a. filter (is_pending turns) (h a)) order r c in
    let (within, less) = filter_from (is_pending turns) (h agent) r there in
    (agent, known, within, ltb-true (units r.agent r.number turns) (work r) less)

-- ---- the soonest

-- This is an action of the earliest deadline; none where there is no action.
abbrev pub IsSoonest : List Action → Option Action → Type 0
IsSoonest actions None = (x : Action) → Contains actions x → ⊥
IsSoonest actions (Some r) = Contains actions r × ((x : Action) → Contains actions x → r.deadline ≤ x.deadline)

none_sooner : (q r : Action) (actions : List Action) → q.deadline ≤ r.deadline → ((x : Action) → Contains actions x → q.deadline ≤ x.deadline) → (x : Action) → Contains (r ∷ actions) x → q.deadline ≤ x.deadline
none_sooner q r actions first rest x c = elim (front_or_behind r actions x c) [
  | inl e ↦ subst (λ (y : Action). q.deadline ≤ y.deadline) e first
  | inr later ↦ rest x later
]

sooner_is : (r : Action) (actions : List Action) (o : Option Action) → IsSoonest actions o → IsSoonest (r ∷ actions) (sooner r o)
sooner_is r actions None none = (contains_front r actions, none_sooner r r actions (omega arith) (λ x c. absurd (none x c)))
sooner_is r actions (Some q) (there, first) = elim (cases_Bool (nat_le r.deadline q.deadline)) [
  | inl t ↦ (
      let sooner : r.deadline ≤ q.deadline = leb-true r.deadline q.deadline t in
      rw t (contains_front r actions, none_sooner r r actions (omega arith) (λ x c. let least = first x c in omega (arith, least, sooner))))
  | inr t ↦ rw t (contains_behind r actions q there, none_sooner q r actions (omega (arith, leb-false r.deadline q.deadline t)) first)
]

pub soonest_is : (actions : List Action) → IsSoonest actions (soonest actions)
soonest_is [] = contains_none
soonest_is (r ∷ actions) = sooner_is r actions (soonest actions) (soonest_is actions)
