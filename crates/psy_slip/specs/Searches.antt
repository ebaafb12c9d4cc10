-- What is looked for among the words of a line.
use Rattle.std.specs.Prelude.{ℕ, Bool, false, ◌==◌, not, ◌||◌, List, [], ◌∷◌, find, take, codes, bytes_eq, Option, is_some}
use Rattle.std.specs.Char.{is_ascii_alphabetic}
use Rattle.std.specs.List.{list_any}
use Rattle.psy_slip.specs.declared.sought.Sought.{Sought}
use Rattle.psy_slip.specs.declared.sought.Sought.TheVariants.{Comment, Comma, Equal, NoLetter, NoNumber, NoValue, Beyond}
use Rattle.psy_slip.specs.Numbers.{is_beyond}
use Rattle.psy_text.specs.Words.{is_number, is_value}

-- A word begins as a comment does here, where it is the first byte of a line, or in a program.
abbrev pub begins_comment : List ℕ → Bool
begins_comment word = bytes_eq (take 1 word) (codes "#") || (bytes_eq (take 2 word) (codes "//") || bytes_eq (take 2 word) (codes "/*"))

-- A word begins with a letter.
abbrev pub begins_letter : List ℕ → Bool
begins_letter [] = false
begins_letter (b ∷ rest) = is_ascii_alphabetic b

-- It is so of a word: 44 is `,`, which no name and no number holds, and 61 and 58 are `=` and `:`.
abbrev pub is_so : Sought → List ℕ → Bool
is_so Comment word = begins_comment word
is_so Comma word = list_any (λ b. b == 44) word
is_so Equal word = list_any (λ b. b == 61) word || list_any (λ b. b == 58) word
is_so NoLetter word = not (begins_letter word)
is_so NoNumber word = not (is_number word)
is_so NoValue word = not (is_value word)
is_so Beyond word = is_beyond word

-- The first of some words of which it is so
abbrev pub first_of : Sought → List (List ℕ) → Option (List ℕ)
first_of sought words = find (λ w. is_so sought w) words

-- It is so of one of them.
abbrev pub has : Sought → List (List ℕ) → Bool
has sought words = is_some (first_of sought words)
