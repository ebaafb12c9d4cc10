-- Identifier codes, and values in binary.
use Rattle.std.specs.Prelude.{ℕ, ℤ, ◌+◌, ◌/◌, ◌%◌, List, [], ◌∷◌, ◌++◌, codes, decimal, zero, suc}
use Rattle.std.specs.Int.{cast_unsigned, w32}

-- The identifier code of the thing of a kind at a place: the kind's letter, and the place by its digits
abbrev pub code : ℕ → ℕ → List ℕ
code kind place = kind ∷ decimal place

-- The lowest binary digits of a number, so many, the highest first
unfoldable pub binary : ℕ → ℕ → List ℕ
binary zero number = []
binary (suc digits) number = binary digits (number / 2) ++ (48 + number % 2) ∷ []

-- A word of 32 bits in binary
unfoldable pub word : ℕ → List ℕ
word number = binary 32 number

-- A value of 32 bits in binary, in two's complement
abbrev pub word_digits : ℤ → List ℕ
word_digits value = word (cast_unsigned w32 value)

-- The thing at a place has this value, as it is written.
abbrev pub valued : List ℕ → ℕ → ℕ → List ℕ
valued value kind place = value ++ code kind place ++ codes "\n"

-- A vector has a value.
abbrev pub vector : ℤ → ℕ → ℕ → List ℕ
vector value kind place = codes "b" ++ word_digits value ++ valued (codes " ") kind place
