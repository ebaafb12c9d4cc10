-- The order of messages, and the queue that keeps it.
use Rattle.std.specs.Prelude.{ℕ, ℤ, ◌≡◌, Bool, false, ◌==◌, ◌&&◌, ◌||◌, nat_lt, if◌then◌else◌, List, [], ◌∷◌, map}
use Rattle.std.specs.List.{AllPairs}
use Rattle.psy_base.specs.declared.message.Message.{Message}

-- One number is less, or it is the same and the rest decides.
abbrev pub less_then : ℕ → ℕ → Bool → Bool
less_then a b rest = nat_lt a b || a == b && rest

-- Messages are ordered by visibility, then entry, then sender, then number.
abbrev pub comes_before : Message → Message → Bool
comes_before m n = less_then m.visible n.visible (less_then m.entry n.entry (less_then m.sender n.sender (nat_lt m.number n.number)))

-- A message is put before the first one that comes after it.
abbrev pub put_in_order : Message → List Message → List Message
put_in_order m [] = m ∷ []
put_in_order m (n ∷ ns) = if comes_before m n then m ∷ n ∷ ns else n ∷ put_in_order m ns

-- No message comes before an earlier one.
abbrev pub AreInOrder : List Message → Type 0
AreInOrder = AllPairs (λ m n. comes_before n m ≡ false)

-- The values of messages
abbrev pub message_values : List Message → List ℤ
message_values = map (λ (m : Message). m.value)

-- A queue
pub record Queued : Type 0 where
  -- how many messages it has room for
  pub size : ℕ
  -- those that it holds, in order
  pub messages : List Message
