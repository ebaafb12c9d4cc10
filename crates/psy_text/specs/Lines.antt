-- The lines of a text.
use Rattle.std.specs.Prelude.{ℕ, ◌-◌, Bool, true, false, ◌==◌, ◌&&◌, ◌||◌, if◌then◌else◌, List, [], ◌∷◌, length, take, slice_index}
use Rattle.psy_text.specs.Words.{in_front, words_of}

-- The bytes begin with this one.
abbrev pub begins_with : ℕ → List ℕ → Bool
begins_with b [] = false
begins_with b (c ∷ rest) = c == b

-- A text without the carriage returns that stand directly before line feeds
abbrev pub without_returns : List ℕ → List ℕ
without_returns [] = []
without_returns (b ∷ rest) = if b == 13 && begins_with 10 rest then without_returns rest else b ∷ without_returns rest

-- Bytes without a carriage return at their end
abbrev pub without_return : List ℕ → List ℕ
without_return bytes = if slice_index bytes (length bytes - 1) == 13 then take (length bytes - 1) bytes else bytes

-- The pieces of a text between its line feeds; an empty piece behind the last line feed is none.
abbrev pub pieces_of : List ℕ → List (List ℕ)
pieces_of [] = []
pieces_of (b ∷ rest) = if b == 10 then [] ∷ pieces_of rest else in_front b (pieces_of rest)

-- The lines of a text: its pieces between line feeds, without a carriage return that stands before a line feed
abbrev pub lines_of : List ℕ → List (List ℕ)
lines_of text = pieces_of (without_returns text)

-- There is none.
abbrev pub is_none_of : List (List ℕ) → Bool
is_none_of [] = true
is_none_of (word ∷ words) = false

-- A line says nothing: it has no words, or begins with `#`.
abbrev pub is_skipped : List ℕ → Bool
is_skipped line = is_none_of (words_of line) || begins_with 35 line
