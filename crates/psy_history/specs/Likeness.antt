-- When two histories tell the same: they differ in nothing but what an action did beyond its budget.
use Rattle.std.specs.Prelude.{◌≡◌, ◌≢◌, nat_lt, List, [], ◌∷◌, filter, ⊤}
use Rattle.psy_code.specs.Views.{Looked}
use Rattle.psy_history.specs.Actions.{Action, Overran}
use Rattle.psy_history.specs.Schedule.{work}

-- The looks of an action that stand below its budget
abbrev pub looks_within : Action → List Looked
looks_within r = filter (λ (look : Looked). nat_lt look.number r.budget) r.deeds.looks

-- Two actions that are the same, unless both overran: then they have as much work, and the same looks below their budget.
pub record IsLike (r q : Action) : Type 0 where
  pub agent : r.agent ≡ q.agent
  pub number : r.number ≡ q.number
  pub point : r.point ≡ q.point
  pub start : r.start ≡ q.start
  pub budget : r.budget ≡ q.budget
  pub deadline : r.deadline ≡ q.deadline
  pub verdict : r.verdict ≡ q.verdict
  pub finished : r.verdict ≢ Overran → r ≡ q
  pub work : work r ≡ work q
  pub looks : looks_within r ≡ looks_within q

-- The same of the actions of an agent, one by one
abbrev pub AreLike : List Action → List Action → Type 0
AreLike [] [] = ⊤
AreLike (r ∷ rs) (q ∷ qs) = IsLike r q × AreLike rs qs
AreLike _ _ = ⊥
