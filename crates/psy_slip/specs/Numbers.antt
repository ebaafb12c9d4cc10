-- Words that are numbers or values, compared.
use Rattle.std.specs.Prelude.{ℕ, Bool, false, ◌==◌, ◌||◌, nat_lt, if◌then◌else◌, List, [], ◌∷◌, Option, None, Some, pos, negsuc, int_lt}
use Rattle.psy_base.specs.declared.limits.TheConstants.{LITERAL}
use Rattle.psy_text.specs.Words.{number_of, value_of}

-- There is one, and it passes a test.
abbrev pub passes : {X : Type 0} → (X → Bool) → Option X → Bool
passes test None = false
passes test (Some x) = test x

-- The word is a number above this one.
abbrev pub is_above : ℕ → List ℕ → Bool
is_above limit word = passes (nat_lt limit) (number_of word)

-- It is 0.
abbrev pub is_nothing : List ℕ → Bool
is_nothing word = passes (λ n. n == 0) (number_of word)

-- Two words are one number.
abbrev pub is_same_number : List ℕ → List ℕ → Bool
is_same_number word other = passes (λ n. passes (λ m. n == m) (number_of other)) (number_of word)

-- One word is a number below another's.
abbrev pub is_less_number : List ℕ → List ℕ → Bool
is_less_number word other = passes (λ n. passes (nat_lt n) (number_of other)) (number_of word)

-- The first of the greatest among a number and those behind it
abbrev pub greatest : List ℕ → List (List ℕ) → List ℕ
greatest word [] = word
greatest word (other ∷ words) = if is_less_number word other then greatest other words else greatest word words

-- The word is a value of more than 32 bits: below -2,147,483,648, or above 2,147,483,647.
abbrev pub is_beyond : List ℕ → Bool
is_beyond word = passes (λ v. int_lt v (negsuc LITERAL) || int_lt (pos LITERAL) v) (value_of word)
