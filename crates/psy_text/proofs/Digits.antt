-- What digits stand for, from the left.
use Rattle.std.proofs.Common.{◌≡◌, ℕ, ◌+◌, ◌-◌, ◌*◌, ◌^◌, ◌<◌, ◌≤◌, true, ◌&&◌, leb, Option, None, Some, MatchOption, IfSome, List, [], ◌∷◌, length, drop, get_or, ap, sym, ◌∙◌, leb-true, mul-le-mul_right, arith}
use Rattle.std.specs.Prelude.{All, IsTrue}
use Rattle.std.specs.Char.{is_ascii_digit}
use Rattle.std.specs.List.{list_all}
use Rattle.std.proofs.lemmas.Bool.{and_parts, cond-true}
use Rattle.std.proofs.lemmas.List.{drop_more}
use Rattle.std.proofs.lemmas.List.Sums.{AllPass-from_list_all}
use Rattle.std.proofs.Math.Nat.{pow-suc, pow-succ', one-le-pow, le-mul_of_pos_right, pow-le-pow_right}
use Rattle.psy_base.specs.declared.limits.TheConstants.{WORD_DIGITS}
use Rattle.psy_tree.specs.Lexemes.{decimal_value}
use Rattle.psy_text.specs.Words.{is_number, number_of}

regroup : (value digit power rest : ℕ) → value * (10 * power) + (digit * power + rest) ≡ (value * 10 + digit) * power + rest
regroup value digit power rest = omega arith

with_first : (value digit : ℕ) (rest : List ℕ) → value * 10 ^ length (digit ∷ rest) + decimal_value (digit ∷ rest) ≡ (value * 10 + (digit - 48)) * 10 ^ length rest + decimal_value rest
with_first value digit rest = ap (λ p. value * p + ((digit - 48) * 10 ^ length rest + decimal_value rest)) (pow-succ' 10 (length rest)) ∙ regroup value (digit - 48) (10 ^ length rest) (decimal_value rest)

-- One more digit is read
pub decimal_value-more : (digits : List ℕ) (at value : ℕ) → at < length digits → value * 10 ^ length (drop at digits) + decimal_value (drop at digits) ≡ decimal_value digits → (value * 10 + (get_or digits at 0 - 48)) * 10 ^ length (drop (at + 1) digits) + decimal_value (drop (at + 1) digits) ≡ decimal_value digits
decimal_value-more digits at value within so_far =
    sym (with_first value (get_or digits at 0) (drop (at + 1) digits))
    ∙ sym (ap (λ ds. value * 10 ^ length ds + decimal_value ds) (drop_more digits at 0 within))
    ∙ so_far

-- A front of the digits has no greater value than all of them
front_below : (value power rest total : ℕ) → value * 10 ^ power + rest ≡ total → value ≤ total
front_below value power rest total is =
    let positive : 0 < 10 ^ power = one-le-pow power 10 (omega arith) in
    let more : value ≤ value * 10 ^ power = le-mul_of_pos_right value positive in
    omega arith

-- Nor has one with one more digit
pub decimal_value-front : (digits : List ℕ) (at value : ℕ) → at < length digits → value * 10 ^ length (drop at digits) + decimal_value (drop at digits) ≡ decimal_value digits → value * 10 + (get_or digits at 0 - 48) ≤ decimal_value digits
decimal_value-front digits at value within so_far =
    front_below (value * 10 + (get_or digits at 0 - 48)) (length (drop (at + 1) digits)) (decimal_value (drop (at + 1) digits)) (decimal_value digits) (decimal_value-more digits at value within so_far)

-- Arithmetic of a digit in front of others
one_more : (d p v : ℕ) → d ≤ 9 → v < p → d * p + v < p * 10
one_more d p v few less = omega (arith, mul-le-mul_right p few)

-- Digits stand for less than the power of ten of their count.
decimal_value-below : (digits : List ℕ) → list_all is_ascii_digit digits ≡ true → decimal_value digits < 10 ^ length digits
decimal_value-below [] all = omega arith
decimal_value-below (b ∷ digits) all =
    let parts : (is_ascii_digit b ≡ true) × (list_all is_ascii_digit digits ≡ true) = and_parts (is_ascii_digit b) (list_all is_ascii_digit digits) all in
    let few : b - 48 ≤ 9 = omega (arith, leb-true b 57 (and_parts (leb 48 b) (leb b 57) parts.0).1) in
    rw pow-suc (one_more (b - 48) (10 ^ length digits) (decimal_value digits) few (decimal_value-below digits parts.1))

-- A word that is a number has digits alone.
pub is_number-digits : (word : List ℕ) → is_number word ≡ true → All (λ b. IsTrue (is_ascii_digit b)) word
is_number-digits word number =
    let parts = and_parts (leb 1 (length word)) (leb (length word) WORD_DIGITS && list_all is_ascii_digit word) number in
    AllPass-from_list_all is_ascii_digit word (and_parts (leb (length word) WORD_DIGITS) (list_all is_ascii_digit word) parts.1).1

-- It stands for less than a million millions.
pub is_number-small : (word : List ℕ) → is_number word ≡ true → decimal_value word < 10 ^ 12
is_number-small word number =
    let parts = and_parts (leb 1 (length word)) (leb (length word) WORD_DIGITS && list_all is_ascii_digit word) number in
    let rest = and_parts (leb (length word) WORD_DIGITS) (list_all is_ascii_digit word) parts.1 in
    let few : length word ≤ 12 = omega (arith, leb-true (length word) WORD_DIGITS rest.0) in
    let ten : 0 < 10 = omega arith in
    let most : 10 ^ length word ≤ 10 ^ 12 = pow-le-pow_right ten few in
    omega (arith, decimal_value-below word rest.1, most)

-- What is read of a number's digits is the number.
pub number_of-read : (word : List ℕ) (read : Option ℕ) → is_number word ≡ true → MatchOption read (2 ^ 64 ≤ decimal_value word) (λ value. (value ≡ decimal_value word) × (value < 2 ^ 64)) → (read ≡ number_of word) × IfSome read (λ n. n < 10 ^ 12)
number_of-read word None number is = absurd (omega (arith, is_number-small word number, is))
number_of-read word (Some value) number is =
    (ap Some is.0 ∙ sym (cond-true (is_number word) (Some (decimal_value word)) None number), omega (arith, is.0, is_number-small word number))
