-- The sorts of bytes, beside one another.
use Rattle.std.proofs.Common.{◌≡◌, ℕ, List, [], ◌∷◌, refl, true, false, arith}
use Rattle.std.specs.Char.{is_ascii_digit}
use Rattle.std.proofs.lemmas.Bool.Decides.{nat_tests}
use Rattle.psy_tree.specs.Lexemes.{is_blank, begins_word, is_in_word, EndsBefore}
use Rattle.psy_token.proofs.Booleans.{or_left, or_right, or_none, or_of}
use Rattle.psy_token.specs.Reading.{goes_on}

pub in_word-begins : (b : ℕ) → begins_word b ≡ true → is_in_word b ≡ true
in_word-begins b is = or_left (begins_word b) (is_ascii_digit b) is

pub in_word-digit : (b : ℕ) → is_ascii_digit b ≡ true → is_in_word b ≡ true
in_word-digit b is = or_right (begins_word b) (is_ascii_digit b) is

pub in_word-neither : (b : ℕ) → is_in_word b ≡ false → (begins_word b ≡ false) × (is_ascii_digit b ≡ false)
in_word-neither b is = or_none (begins_word b) (is_ascii_digit b) is

pub in_word-none : (b : ℕ) → begins_word b ≡ false → is_ascii_digit b ≡ false → is_in_word b ≡ false
in_word-none b first second = or_of (begins_word b) (is_ascii_digit b) first second

pub begins-not_blank : (b : ℕ) → begins_word b ≡ true → is_blank b ≡ false
begins-not_blank b is = grind (arith, nat_tests)

pub digit-not_blank : (b : ℕ) → is_ascii_digit b ≡ true → is_blank b ≡ false
digit-not_blank b is = grind (arith, nat_tests)

pub digit-not_begins : (b : ℕ) → is_ascii_digit b ≡ true → begins_word b ≡ false
digit-not_begins b is = grind (arith, nat_tests)

-- A number ends where no byte of a word goes on
pub goes_on-none : (rest : List ℕ) → goes_on rest ≡ false → EndsBefore is_in_word rest
goes_on-none [] is = tt
goes_on-none (b ∷ rest) is = is

pub goes_on-ends : (rest : List ℕ) → EndsBefore is_in_word rest → goes_on rest ≡ false
goes_on-ends [] ends = refl
goes_on-ends (b ∷ rest) ends = ends

pub EndsBefore-digits : (rest : List ℕ) → EndsBefore is_in_word rest → EndsBefore is_ascii_digit rest
EndsBefore-digits [] ends = tt
EndsBefore-digits (b ∷ rest) ends = (in_word-neither b ends).1
