-- Decimal digits of numbers and values.
use Rattle.std.proofs.Common.{◌≡◌, ℕ, zero, suc, ℤ, pos, negsuc, ◌^◌, ◌<◌, ◌≤◌, Option, None, Some, MatchOption, IfSome, List, ◌∷◌, ◌++◌, length, get_or, drop, refl, sym, ap, ◌∙◌, arith}
use Rattle.std.specs.Prelude.{FitsSigned, decimal}
use Rattle.std.specs.Char.{is_ascii_digit}
use Rattle.std.specs.Fmt.{signed_decimal}
use Rattle.std.specs.Int.{w32}
use Rattle.std.proofs.lemmas.Fmt.{digits_value-decimal, decimal_injective, decimal-digits_value, decimal_nonempty, decimal_digit, first_decimal}
use Rattle.psy_tree.specs.Lexemes.{Each, decimal_value}
use Rattle.psy_text.specs.Fronts.{Cuts}
use Rattle.psy_text.proofs.lemmas.Numerals.{own, Each-decimal, decimal_first}
use Rattle.psy_text.proofs.lemmas.Runs.{Cuts-once}

-- At most one number stands at the front
pub one_number : (text : List ℕ) (m n : ℕ) (rest more : List ℕ) → m < 2 ^ 64 → n < 2 ^ 64 → Cuts is_ascii_digit text (decimal m) rest → Cuts is_ascii_digit text (decimal n) more → (m ≡ n) × (rest ≡ more)
one_number text m n rest more small few cuts divides =
    let once = Cuts-once is_ascii_digit text (decimal m) (decimal n) rest more (Each-decimal m small) (Each-decimal n few) cuts divides in
    (decimal_injective m n small few once.0, once.1)

-- No number begins with a minus
pub decimal-no_minus : (n : ℕ) (text rest more : List ℕ) → n < 2 ^ 64 → text ≡ decimal n ++ rest → text ≡ 45 ∷ more → ⊥
decimal-no_minus n text rest more small is minus = decimal_first n rest more 45 small refl (sym is ∙ minus)

-- At most one value stands at the front
pub one_value : (text : List ℕ) (value other : ℤ) (rest more : List ℕ) → FitsSigned w32 value → FitsSigned w32 other → Cuts is_ascii_digit text (signed_decimal value) rest → Cuts is_ascii_digit text (signed_decimal other) more → (value ≡ other) × (rest ≡ more)
one_value text (pos m) (pos n) rest more fits suits cuts divides =
    let once = one_number text m n rest more (omega (arith, fits.sfits)) (omega (arith, suits.sfits)) cuts divides in
    (ap pos once.0, once.1)
one_value text (pos m) (negsuc n) rest more fits suits cuts divides = absurd (decimal-no_minus m text rest (decimal (suc n) ++ more) (omega (arith, fits.sfits)) cuts.0 divides.0)
one_value text (negsuc m) (pos n) rest more fits suits cuts divides = absurd (decimal-no_minus n text more (decimal (suc m) ++ rest) (omega (arith, suits.sfits)) divides.0 cuts.0)
one_value text (negsuc m) (negsuc n) rest more fits suits cuts divides =
    let once = one_number (drop 1 text) (suc m) (suc n) rest more (omega (arith, fits.sfits)) (omega (arith, suits.sfits)) (ap (drop 1) cuts.0, cuts.1) (ap (drop 1) divides.0, divides.1) in
    (ap negsuc (omega (arith, once.0)), once.1)

-- What is written for a number has its value
decimal_value-decimal : (digits : List ℕ) (n : ℕ) → n < 2 ^ 64 → digits ≡ decimal n → decimal_value digits ≡ n
decimal_value-decimal digits n small is = ap decimal_value is ∙ digits_value-decimal own n small

-- Nothing is written with a zero in front, but for 0
pub no_leading_zero : (digits : List ℕ) (n : ℕ) → n < 2 ^ 64 → digits ≡ decimal n → get_or digits 0 0 ≡ 48 → length digits ≡ 1
no_leading_zero digits zero small is first = ap length (is ∙ decimal_digit 0 (omega arith))
no_leading_zero digits (suc n) small is first = omega (arith, first_decimal (suc n) (omega arith) small, ap (λ ds. get_or ds 0 0) is)

-- Something is written for each number
pub some_digits : (digits : List ℕ) (n : ℕ) → n < 2 ^ 64 → digits ≡ decimal n → 0 < length digits
some_digits digits n small is = omega (arith, ap length is, decimal_nonempty n small)

-- What was read of digits is the number that they write, where no zero stands in front of others
pub decimal-read : (digits : List ℕ) (read : Option ℕ) → Each is_ascii_digit digits → 0 < length digits → (get_or digits 0 0 ≡ 48 → length digits ≡ 1)
    → MatchOption read (2 ^ 64 ≤ decimal_value digits) (λ value. (value ≡ decimal_value digits) × (value < 2 ^ 64)) → IfSome read (λ n. digits ≡ decimal n)
decimal-read digits None each some lead is = tt
decimal-read digits (Some value) each some lead is =
    sym (decimal-digits_value own digits each some lead (omega (arith, is.0, is.1))) ∙ ap decimal (sym is.0)

-- Where nothing was read, they write no number
pub decimal-unread : (digits : List ℕ) (read : Option ℕ) → MatchOption read (2 ^ 64 ≤ decimal_value digits) (λ value. (value ≡ decimal_value digits) × (value < 2 ^ 64)) → read ≡ None → (n : ℕ) → n < 2 ^ 64 → digits ≡ decimal n → ⊥
decimal-unread digits None is none n small written = omega (arith, is, decimal_value-decimal digits n small written)
decimal-unread digits (Some value) is none n small written = cc
