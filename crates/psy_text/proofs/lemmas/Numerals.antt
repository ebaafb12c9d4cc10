-- Numbers as they are written.
use Rattle.std.proofs.Common.{◌≡◌, ℕ, ◌^◌, ◌<◌, false, List, [], ◌∷◌, ◌++◌, length, refl, ap, arith, rules}
use Rattle.std.specs.Prelude.{decimal}
use Rattle.std.specs.Char.{is_ascii_digit}
use Rattle.std.proofs.lemmas.Fmt.{digits_decimal, decimal_nonempty}
use Rattle.std.proofs.lemmas.Str.Parse.{IsNumeralModel, numerals_by_weight}
use Rattle.psy_tree.specs.Lexemes.{Each, decimal_value}

-- Digits and what they stand for are those that std writes and reads
pub own : IsNumeralModel (Each is_ascii_digit) decimal_value
own = numerals_by_weight _ (search rules) decimal_value (record { empty = refl; more = λ c digits digit. refl })

-- A number is written by digits
pub Each-decimal : (n : ℕ) → n < 2 ^ 64 → Each is_ascii_digit (decimal n)
Each-decimal n small = digits_decimal own n small

digits_first : (digits rest more : List ℕ) (b : ℕ) → Each is_ascii_digit digits → 0 < length digits → is_ascii_digit b ≡ false → digits ++ rest ≡ b ∷ more → ⊥
digits_first [] rest more b each some other is = omega arith
digits_first (d ∷ digits) rest more b each some other is =
    let first : d ≡ b = cc in
    let same : is_ascii_digit d ≡ is_ascii_digit b = ap is_ascii_digit first in
    cc (same, other, each.0)

-- No number begins with another byte than a digit
pub decimal_first : (n : ℕ) (rest more : List ℕ) (b : ℕ) → n < 2 ^ 64 → is_ascii_digit b ≡ false → decimal n ++ rest ≡ b ∷ more → ⊥
decimal_first n rest more b small other is = digits_first (decimal n) rest more b (Each-decimal n small) (decimal_nonempty n small) other is
