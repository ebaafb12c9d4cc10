-- Where no value stands at the front.
use Rattle.std.proofs.Common.{◌≡◌, ◌≢◌, ◌⊎◌, ⊎_elim, ℕ, suc, ℤ, pos, negsuc, ◌^◌, ◌<◌, ◌≤◌, List, ◌∷◌, ◌++◌, drop, ap, sym, ◌∙◌, arith}
use Rattle.std.specs.Prelude.{FitsSigned, decimal}
use Rattle.std.specs.Char.{is_ascii_digit}
use Rattle.std.specs.Fmt.{signed_decimal}
use Rattle.std.specs.Int.{w32}
use Rattle.psy_text.specs.Fronts.{Cuts}
use Rattle.psy_text.proofs.Numbers.{decimal-no_minus, one_number}

-- No number of 32 bits stands at the front
abbrev NoShort : List ℕ → Type 0
NoShort text = (number : ℕ) (rest : List ℕ) → number < 2 ^ 32 → Cuts is_ascii_digit text (decimal number) rest → ⊥

-- No value of 32 bits stands at the front
abbrev NoValue : List ℕ → Type 0
NoValue text = (value : ℤ) (rest : List ℕ) → FitsSigned w32 value → Cuts is_ascii_digit text (signed_decimal value) rest → ⊥

-- None behind a minus
pub NoValue-minus : (text digits : List ℕ) → text ≡ 45 ∷ digits → NoShort digits → NoValue text
NoValue-minus text digits is none (pos n) rest fits cuts = decimal-no_minus n text rest digits (omega (arith, fits.sfits)) cuts.0 is
NoValue-minus text digits is none (negsuc n) rest fits cuts = none (suc n) rest (omega (arith, fits.sfits)) (sym (ap (drop 1) is) ∙ ap (drop 1) cuts.0, cuts.1)

-- One behind a minus that is 0 or too great
pub NoValue-below : (text digits : List ℕ) (number : ℕ) (more : List ℕ) → text ≡ 45 ∷ digits → Cuts is_ascii_digit digits (decimal number) more → ((number ≡ 0) ⊎ (2 ^ 31 < number)) × (number < 2 ^ 32) → NoValue text
NoValue-below text digits number more is divides far (pos n) rest fits cuts = decimal-no_minus n text rest digits (omega (arith, fits.sfits)) cuts.0 is
NoValue-below text digits number more is divides far (negsuc n) rest fits cuts =
    let once = one_number digits (suc n) number rest more (omega (arith, fits.sfits)) (omega (arith, far.1)) (sym (ap (drop 1) is) ∙ ap (drop 1) cuts.0, cuts.1) divides in
    ⊎_elim (λ zero. omega (arith, once.0)) (λ great. omega (arith, once.0, fits.sfits)) far.0

-- One that is too great, and no minus
pub NoValue-above : (text : List ℕ) (number : ℕ) (more : List ℕ) → ((rest : List ℕ) → text ≢ 45 ∷ rest) → Cuts is_ascii_digit text (decimal number) more → (2 ^ 31 ≤ number) × (number < 2 ^ 32) → NoValue text
NoValue-above text number more plain divides far (pos n) rest fits cuts =
    let once = one_number text n number rest more (omega (arith, fits.sfits)) (omega (arith, far.1)) cuts divides in
    omega (arith, once.0, fits.sfits, far.0)
NoValue-above text number more plain divides far (negsuc n) rest fits cuts = plain (decimal (suc n) ++ rest) cuts.0
