-- The last line of some bytes.
use Rattle.std.specs.Prelude.{ℕ, Bool, false, ◌==◌, nat_le, if◌then◌else◌, List, [], ◌∷◌, ◌++◌, length, Option, None, Some}
use Rattle.std.specs.List.{fold}
use Rattle.psy_last.specs.declared.tail.TheConstants.{LINE_BYTES}

-- A line is over: it ends with a line feed.
abbrev pub is_over : List ℕ → Bool
is_over [] = false
is_over (b ∷ []) = b == 10
is_over (b ∷ c ∷ line) = is_over (c ∷ line)

-- The last line behind one byte more
abbrev pub with_byte : List ℕ → ℕ → List ℕ
with_byte line b = if is_over line then b ∷ [] else line ++ b ∷ []

-- The last line of some bytes, with its line feed where that stands there
abbrev pub last_line : List ℕ → List ℕ
last_line bytes = fold with_byte [] bytes

-- A line, where it has at most 128 bytes
abbrev pub short : List ℕ → Option (List ℕ)
short line = if nat_le (length line) LINE_BYTES then Some line else None
