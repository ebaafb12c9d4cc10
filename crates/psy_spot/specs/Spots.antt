-- Places in a text: the line and the column of a byte, and what stands in that line. Lines and columns are counted from 1, and each byte is a column.
use Rattle.std.specs.Prelude.{ℕ, ◌+◌, ◌==◌, List, length, take, drop, reverse, count_by}
use Rattle.std.specs.List.{prefix_len}
use Rattle.psy_tree.specs.Lexemes.{is_in_line}

-- The bytes up to the next line feed, or to the end
abbrev pub line_front : List ℕ → List ℕ
line_front bytes = take (prefix_len is_in_line bytes) bytes

-- The bytes behind the last line feed
abbrev pub line_back : List ℕ → List ℕ
line_back bytes = reverse (line_front (reverse bytes))

-- The line of the byte that so many bytes come before
abbrev pub line_at : List ℕ → ℕ → ℕ
line_at text place = count_by (λ b. b == 10) (take place text) + 1

-- Its column
abbrev pub column_at : List ℕ → ℕ → ℕ
column_at text place = length (line_back (take place text)) + 1

-- The bytes of its line that stand before it
abbrev pub before_at : List ℕ → ℕ → List ℕ
before_at text place = line_back (take place text)

-- The bytes of its line from it on
abbrev pub behind_at : List ℕ → ℕ → List ℕ
behind_at text place = line_front (drop place text)
