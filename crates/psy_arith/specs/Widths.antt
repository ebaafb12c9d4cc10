-- The widths that a number may have, and what an operator asks of its width.
use Rattle.std.specs.Prelude.{◌≡◌, ℕ, ◌==◌, Bool, nat_lt, if◌then◌else◌}
use Rattle.std.specs.Int.{Width, w8, w16, w32, w64}
use mir.Val.{bits}
use Rattle.psy_arith.specs.declared.width.Width.{Width as Named}
use Rattle.psy_arith.specs.declared.width.Width.TheVariants as named

-- The width of so many bits; 64 stands for a number that is none.
abbrev pub width_of : ℕ → Width
width_of n = if n == 8 then w8 else if n == 16 then w16 else if n == 32 then w32 else w64

-- n is 8, 16, 32 or 64.
abbrev pub IsWidth : ℕ → Type 0
IsWidth n = n ≡ bits (width_of n)

-- The width of the numbers of a type.
abbrev pub of_type : Named → Width
of_type named.W8 = w8
of_type named.W16 = w16
of_type named.W32 = w32
of_type named.W64 = w64

-- The first type has fewer bits than the second.
abbrev pub is_narrower : Named → Named → Bool
is_narrower v w = nat_lt (bits (of_type v)) (bits (of_type w))

-- The wider of two types.
abbrev pub wider : Named → Named → Named
wider v w = if is_narrower v w then w else v
