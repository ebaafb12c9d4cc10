-- What a look of a trial holds.
use Rattle.std.specs.Prelude.{ℕ, ◌<◌, ◌^◌, List, [], length, Option, Some, None, ℤ}

-- The messages, where there are any to see
abbrev pub messages_or_none : Option (List ℤ) → List ℤ
messages_or_none None = []
messages_or_none (Some messages) = messages

-- They can be counted by a number of 32 bits.
abbrev pub IsFew : Option (List ℤ) → Type 0
IsFew messages = length (messages_or_none messages) < 2 ^ 32
