-- Numbers and values that are written are read again, and are words.
use Rattle.std.proofs.Common.{◌≡◌, ◌∙◌, refl, ap, ℕ, suc, ◌^◌, ◌<◌, ◌≤◌, ◌&&◌, nat_le, true, false, cond, List, [], ◌∷◌, append-nil, length, Some, None, ℤ, pos, negsuc, arith}
use Rattle.std.specs.Prelude.{FitsSigned, bytes_eq, codes, decimal, neg_ℤ, option_map, ⊤}
use Rattle.std.specs.Char.{is_ascii_digit}
use Rattle.std.specs.Fmt.{signed_decimal}
use Rattle.std.specs.Int.{w32}
use Rattle.std.specs.List.{list_all}
use Rattle.std.proofs.lemmas.Bool.{and_from, le-leb, lt-ltb, ne_eqb}
use Rattle.std.proofs.lemmas.Fmt.{decimal_nonempty, digits_value-decimal, length-decimal-le}
use Rattle.std.proofs.lemmas.Slice.Eq.{bytes_eq-Decides}
use Rattle.psy_lists.proofs.lemmas.Tests.{not_true}
use Rattle.psy_text.proofs.lemmas.Names.{Each-word}
use Rattle.psy_text.proofs.lemmas.Numerals.{Each-decimal, decimal_first, own}
use Rattle.psy_text.specs.Words.{is_number, number_of, value_of}
use Rattle.psy_tree.specs.Lexemes.{Each, IsWord, decimal_value, is_in_word}
use Rattle.psy_audit.specs.declared.said.Ending.{Ending}
use Rattle.psy_audit.specs.declared.said.Ending.TheVariants.{At, Stopped, Unfinished}
use Rattle.psy_audit.specs.Spelled.{ending_word}
use Rattle.psy_audit.specs.Texts.{ending_of}
use Rattle.psy_legal.proofs.WrittenWords.{IsPlain, is_plain}
use Rattle.std.proofs.lemmas.Bool.Decides.{nat_tests}

-- A number of at most 12 digits
abbrev pub IsShort : ℕ → Type 0
IsShort n = n < 10 ^ 12

-- ---- numbers

all_digits : (word : List ℕ) → Each is_ascii_digit word → list_all is_ascii_digit word ≡ true
all_digits [] each = refl
all_digits (b ∷ word) (digit, each) = and_from (is_ascii_digit b) (list_all is_ascii_digit word) digit (all_digits word each)

pub number_again : (n : ℕ) → IsShort n → number_of (decimal n) ≡ Some n
number_again n short =
    let small : n < 2 ^ 64 = omega (arith, short) in
    let some = decimal_nonempty n small in
    let few : length (decimal n) ≤ 12 = length-decimal-le 12 n (omega arith) short small in
    let is : is_number (decimal n) ≡ true = and_from (nat_le 1 (length (decimal n))) (nat_le (length (decimal n)) 12 && list_all is_ascii_digit (decimal n)) (le-leb 1 (length (decimal n)) some)
    (and_from (nat_le (length (decimal n)) 12) (list_all is_ascii_digit (decimal n)) (le-leb (length (decimal n)) 12 few) (all_digits (decimal n) (Each-decimal n small))) in
    ap (λ t. cond t (Some (decimal_value (decimal n))) None) is ∙ ap Some (digits_value-decimal own n small)

digit_high : (b : ℕ) → is_ascii_digit b ≡ true → 47 < b
digit_high b digit = grind (arith, nat_tests, digit)

digits_plain : (word : List ℕ) → Each is_ascii_digit word → Each is_plain word
digits_plain [] each = tt {0}
digits_plain (b ∷ word) (digit, each) = (lt-ltb 32 b (let high = digit_high b digit in omega (arith, high)), digits_plain word each)

plain_some : (word : List ℕ) → 0 < length word → Each is_plain word → IsPlain word
plain_some [] some each = absurd (omega (arith, some))
plain_some (b ∷ word) some each = each

pub number_plain : (n : ℕ) → IsShort n → IsPlain (decimal n)
number_plain n short =
    let small : n < 2 ^ 64 = omega (arith, short) in
    plain_some (decimal n) (decimal_nonempty n small) (digits_plain (decimal n) (Each-decimal n small))

-- ---- values

digits_value : (word : List ℕ) → 0 < length word → Each is_ascii_digit word → value_of word ≡ option_map pos (number_of word)
digits_value [] some each = absurd (omega (arith, some))
digits_value (b ∷ word) some (digit, each) =
    let high = digit_high b digit in
    ap (λ t. cond t (option_map (λ n. neg_ℤ (pos n)) (number_of word)) (option_map pos (number_of (b ∷ word)))) (ne_eqb b 45 (λ e. omega (arith, e, high)))

pub value_again : (v : ℤ) → FitsSigned w32 v → value_of (signed_decimal v) ≡ Some v
value_again (pos n) fits =
    let short : n < 10 ^ 12 = omega (arith, fits.sfits) in
    let small : n < 2 ^ 64 = omega (arith, short) in
    digits_value (decimal n) (decimal_nonempty n small) (Each-decimal n small) ∙ ap (option_map pos) (number_again n short)
value_again (negsuc n) fits = (let short : suc n < 10 ^ 12 = omega (arith, fits.sfits) in ap (option_map (λ n. neg_ℤ (pos n))) (number_again (suc n) short))

pub value_plain : (v : ℤ) → FitsSigned w32 v → IsPlain (signed_decimal v)
value_plain (pos n) fits = number_plain n (omega (arith, fits.sfits))
value_plain (negsuc n) fits =
    let short : suc n < 10 ^ 12 = omega (arith, fits.sfits) in
    let small : suc n < 2 ^ 64 = omega (arith, short) in
    (refl, digits_plain (decimal (suc n)) (Each-decimal (suc n) small))

-- ---- how actions end

-- It ends at a date of at most 12 digits, or at none.
abbrev pub EndsShort : Ending → Type 0
EndsShort (At date) = IsShort date
EndsShort Stopped = ⊤
EndsShort Unfinished = ⊤

-- A number isn't written as a word that begins with another byte.
other_word : (n b : ℕ) (rest : List ℕ) → IsShort n → is_ascii_digit b ≡ false → bytes_eq (decimal n) (b ∷ rest) ≡ false
other_word n b rest short other = not_true (bytes_eq (decimal n) (b ∷ rest)) (λ (same : bytes_eq (decimal n) (b ∷ rest) ≡ true).
    decimal_first n [] rest b (omega (arith, short)) other (append-nil (decimal n) ∙ (bytes_eq-Decides (decimal n) (b ∷ rest)).0 same))

pub ending_again : (e : Ending) → EndsShort e → ending_of (ending_word e) ≡ Some e
ending_again (At date) short =
    ap (λ t. cond t (Some Stopped) (cond (bytes_eq (decimal date) (codes "-")) (Some Unfinished) (option_map At (number_of (decimal date))))) (other_word date 115 (codes "top") short refl)
    ∙ ap (λ t. cond t (Some Unfinished) (option_map At (number_of (decimal date)))) (other_word date 45 [] short refl)
    ∙ ap (option_map At) (number_again date short)
ending_again Stopped short = refl
ending_again Unfinished short = refl

pub ending_plain : (e : Ending) → EndsShort e → IsPlain (ending_word e)
ending_plain (At date) short = number_plain date short
ending_plain Stopped short = (refl, (refl, (refl, (refl, tt {0}))))
ending_plain Unfinished short = (refl, tt {0})

-- ---- names

word_high : (b : ℕ) → is_in_word b ≡ true → 32 < b
word_high b in_word = grind (arith, nat_tests, in_word)

each_word : (word : List ℕ) → Each is_in_word word → Each is_plain word
each_word [] each = tt {0}
each_word (b ∷ word) (in_word, each) = (lt-ltb 32 b (word_high b in_word), each_word word each)

pub name_plain : (name : List ℕ) → IsWord name → IsPlain name
name_plain [] is = absurd is
name_plain (b ∷ name) is = each_word (b ∷ name) (Each-word (b ∷ name) is)
