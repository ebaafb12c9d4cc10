-- What room of fixed size tells of a line.
use Rattle.std.specs.Prelude.{◌≡◌, ℕ, ◌<◌, ◌≤◌, List, length, take}
use Rattle.psy_last.specs.declared.tail.TheConstants.{LINE_BYTES}
use Rattle.psy_last.specs.declared.tail.Tail.{Tail}
use Rattle.psy_last.specs.Lasts.{is_over}

-- The room has this line, where it is short; and it is known whether it is over.
pub record IsTail (tail : Tail) (line : List ℕ) : Type 0 where
  pub short : tail.length ≤ LINE_BYTES → line ≡ take tail.length tail.bytes
  pub count : tail.length ≤ LINE_BYTES → length line ≡ tail.length
  pub long : LINE_BYTES < tail.length → LINE_BYTES < length line
  pub over : tail.is_over ≡ is_over line
