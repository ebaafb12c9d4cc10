-- The words of a line, and the numbers and values that words are.
use Rattle.std.specs.Prelude.{ℕ, Bool, false, ◌==◌, ◌&&◌, ◌||◌, nat_le, if◌then◌else◌, List, [], ◌∷◌, length, Option, Some, None, option_map, ℤ, pos, neg_ℤ}
use Rattle.std.specs.Char.{is_ascii_digit}
use Rattle.std.specs.List.{list_all}
use Rattle.psy_base.specs.declared.limits.TheConstants.{WORD_DIGITS}
use Rattle.psy_tree.specs.Lexemes.{decimal_value}

-- Space or tab
abbrev pub is_gap : ℕ → Bool
is_gap b = b == 32 || b == 9

-- A space or a tab comes first.
abbrev pub begins_with_gap : List ℕ → Bool
begins_with_gap [] = false
begins_with_gap (b ∷ rest) = is_gap b

-- A byte in front of the first of some lists; alone where there is none
abbrev pub in_front : ℕ → List (List ℕ) → List (List ℕ)
in_front b [] = (b ∷ []) ∷ []
in_front b (piece ∷ pieces) = (b ∷ piece) ∷ pieces

-- The words of a line: what stands between spaces and tabs
abbrev pub words_of : List ℕ → List (List ℕ)
words_of [] = []
words_of (b ∷ rest) = if is_gap b then words_of rest else if begins_with_gap rest then (b ∷ []) ∷ words_of rest else in_front b (words_of rest)

-- The word is 1 to 12 decimal digits.
abbrev pub is_number : List ℕ → Bool
is_number word = nat_le 1 (length word) && (nat_le (length word) WORD_DIGITS && list_all is_ascii_digit word)

-- The word is a number, which may have one `-` before it.
abbrev pub is_value : List ℕ → Bool
is_value [] = false
is_value (b ∷ rest) = if b == 45 then is_number rest else is_number (b ∷ rest)

-- The number that a word is, where it is one
abbrev pub number_of : List ℕ → Option ℕ
number_of word = if is_number word then Some (decimal_value word) else None

-- The value that a word is, where it is one: a number, which may have one `-` before it
abbrev pub value_of : List ℕ → Option ℤ
value_of [] = None
value_of (b ∷ rest) = if b == 45 then option_map (λ n. neg_ℤ (pos n)) (number_of rest) else option_map pos (number_of (b ∷ rest))
