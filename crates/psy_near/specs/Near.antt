-- Names that are nearly the same: of other case, or one slip of a key apart.
use Rattle.std.specs.Prelude.{ℕ, ◌==◌, Bool, false, ◌&&◌, ◌||◌, nat_le, if◌then◌else◌, List, [], ◌∷◌, length}
use Rattle.std.specs.Str.{bytes_eq, str_eq_ignore_ascii_case}

-- The first two bytes of one are those of the other, swapped, and the rest is the same.
abbrev pub is_swapped : List ℕ → List ℕ → Bool
is_swapped (a ∷ b ∷ more) (c ∷ d ∷ rest) = a == d && (b == c && bytes_eq more rest)
is_swapped _ _ = false

-- Their first bytes differ, and nothing else: the first byte is another, is missing in one, or is swapped with the next.
abbrev pub differ_here : List ℕ → List ℕ → Bool
differ_here (x ∷ more) (y ∷ rest) =
    bytes_eq more rest || (bytes_eq more (y ∷ rest) || (bytes_eq (x ∷ more) rest || is_swapped (x ∷ more) (y ∷ rest)))
differ_here _ _ = false

-- Behind what they begin with together they differ by one slip.
abbrev pub differ_by_one : List ℕ → List ℕ → Bool
differ_by_one (x ∷ more) (y ∷ rest) = if x == y then differ_by_one more rest else differ_here (x ∷ more) (y ∷ rest)
differ_by_one [] other = length other == 1
differ_by_one (x ∷ more) [] = length (x ∷ more) == 1

-- Both have three bytes or more, and differ by one slip.
abbrev pub is_slip : List ℕ → List ℕ → Bool
is_slip name other = nat_le 3 (length name) && (nat_le 3 (length other) && differ_by_one name other)

-- They are the same but for case, or differ by one slip.
abbrev pub is_near : List ℕ → List ℕ → Bool
is_near name other = str_eq_ignore_ascii_case name other || is_slip name other
