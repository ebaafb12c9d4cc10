-- What the fields of the pending agents stand for.
use Rattle.std.specs.Prelude.{ℕ, ◌≡◌, ◌≢◌, ◌+◌, ◌≤◌, List, length, Option, Some, None, slice_get, vec_capacity}
use Rattle.std.specs.List.{All, AllPairs, Contains, sum_by}
use Rattle.psy_ready.specs.declared.ready.Pending.{Pending}
use Rattle.psy_ready.specs.declared.ready.Ready.TheInside.{Inside}
use Rattle.psy_ready.specs.Choice.{pending_deadline}

-- 1 for an agent that isn't pending
abbrev pub resting : Option ℕ → ℕ
resting None = 1
resting (Some deadline) = 0

-- Those listed are the pending agents, each once, by deadline.
pub record AreSorted (deadlines : List (Option ℕ)) (sorted : List Pending) : Type 0 where
  pub rise : AllPairs (λ (p q : Pending). p.deadline ≤ q.deadline) sorted
  pub once : AllPairs (λ (p q : Pending). p.agent ≢ q.agent) sorted
  pub pending : All (λ (p : Pending). pending_deadline deadlines p.agent ≡ Some p.deadline) sorted
  pub each : (agent deadline : ℕ) → pending_deadline deadlines agent ≡ Some deadline → Contains sorted (record { agent = agent; deadline = deadline })

-- There is room for the agents that aren't pending.
pub record IsReady (r : Inside) : Type 0 where
  pub sorted : AreSorted r.deadlines.items r.sorted.items
  pub room : length r.sorted.items + sum_by resting r.deadlines.items ≤ vec_capacity r.sorted

-- At this place of an order stands the first of these agents.
pub record IsFirstPlace (due : List Pending) (order : List ℕ) (place : ℕ) : Type 0 where
  pub one : Pending
  pub among : Contains due one
  pub at : slice_get order place ≡ Some one.agent
  pub first : (p : ℕ) (other : Pending) → Contains due other → slice_get order p ≡ Some other.agent → place ≤ p
