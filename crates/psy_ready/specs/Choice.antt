-- Which of the pending agents comes next: the one of least deadline, ties going to the earlier place of an order.
use Rattle.std.specs.Prelude.{ℕ, ◌≡◌, ◌≢◌, ◌<◌, ◌≤◌, ◌⊎◌, List, Option, Some, None, slice_get, slice_index_or}
use Rattle.std.specs.List.{All, AllPairs, Contains}

-- The deadline of an agent; None where it isn't pending
abbrev pub pending_deadline : List (Option ℕ) → ℕ → Option ℕ
pending_deadline pending agent = slice_index_or pending agent None

-- An order lists each of so many agents once.
pub record ListsEach (agents : ℕ) (order : List ℕ) : Type 0 where
  pub within : All (λ agent. agent < agents) order
  pub once : AllPairs (λ a b. a ≢ b) order
  pub each : (agent : ℕ) → agent < agents → Contains order agent

-- One place and deadline come no later than others: the deadline is less, or the same and the place no later.
abbrev pub NoLater : ℕ → ℕ → ℕ → ℕ → Type 0
NoLater place deadline p d = (deadline < d) ⊎ ((deadline ≡ d) × (place ≤ p))

-- An agent is pending, and of all pending ones none comes earlier by deadline and place.
pub record IsPick (pending : List (Option ℕ)) (order : List ℕ) (agent : ℕ) : Type 0 where
  pub place : ℕ
  pub deadline : ℕ
  pub at : slice_get order place ≡ Some agent
  pub is_pending : pending_deadline pending agent ≡ Some deadline
  pub first : (p a d : ℕ) → slice_get order p ≡ Some a → pending_deadline pending a ≡ Some d → NoLater place deadline p d
