-- Places in a program's text: the column that is told of a byte, and where tokens and lines begin. Columns are counted from 1.
use Rattle.std.specs.Prelude.{◌≡◌, ℕ, ◌+◌, ◌<◌, List, length, slice_get, Some, ◌⊎◌}
use Rattle.bstr.specs.Utf8.{lossy_chars}
use Rattle.psy_tree.specs.declared.token.Token.{Token}
use Rattle.psy_tree.specs.Tokens.{TokensOf}
use Rattle.psy_spot.specs.Spots.{before_at, column_at, line_at}

-- The column that is told of it: how many characters stand before it in its line, counted from 1
abbrev pub told_column : List ℕ → ℕ → ℕ
told_column text place = length (lossy_chars (before_at text place)) + 1

-- The token of this number, counted from 0, begins at that place; behind the last token comes the end.
abbrev pub IsStart : List Token → ℕ → ℕ → ℕ → Type 0
IsStart tokens end number place =
    ((number ≡ length tokens) × (place ≡ end)) ⊎ ((token : Token) × (slice_get tokens number ≡ Some token) × (place ≡ token.place))

-- The token of this number begins behind so many bytes; behind the last token comes the end of the text.
abbrev pub IsTokenPlace : List ℕ → ℕ → ℕ → Type 0
IsTokenPlace text number place = (tokens : List Token) × TokensOf text tokens × IsStart tokens (length text) number place

-- The line of this number begins behind so many bytes, and there are some: before it stand so many lines but one, each with its line feed.
abbrev pub IsLinePlace : List ℕ → ℕ → ℕ → Type 0
IsLinePlace text number place = (place < length text) × (line_at text place ≡ number) × (column_at text place ≡ 1)
