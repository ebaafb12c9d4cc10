-- The depth of a value.
use Rattle.std.proofs.Common.{◌≡◌, ℕ, ◌*◌, ◌/◌, ◌==◌, min, false, cond, sym, ap, ◌∙◌, arith}
use Rattle.std.proofs.lemmas.Grind.{common_steps}
use Rattle.std.specs.Prelude.{ℤ, ◌-ℤ◌, unsigned_abs}
use Rattle.psy_draw.specs.Places.{depth_of}

-- It is this part of the height, where the least and the greatest value differ.
pub depth_is : (least greatest value : ℤ) (height whole part r : ℕ) → whole ≡ unsigned_abs (greatest -ℤ least) → part ≡ unsigned_abs (greatest -ℤ value) → (whole ≡ 0 → ⊥) → r ≡ min (part * height / whole) height → r ≡ depth_of least greatest value height
depth_is least greatest value height whole part r is_whole is_part some e =
    let more : (unsigned_abs (greatest -ℤ least) == 0) ≡ false = grind (arith, common_steps) in
    e ∙ ap (λ w. min (part * height / w) height) is_whole ∙ ap (λ p. min (p * height / unsigned_abs (greatest -ℤ least)) height) is_part
    ∙ sym (ap (λ b. cond b (height / 2) (min (unsigned_abs (greatest -ℤ value) * height / unsigned_abs (greatest -ℤ least)) height)) more)
