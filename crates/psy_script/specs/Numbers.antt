-- Values that all are there, and the range of one.
use Rattle.std.specs.Prelude.{Bool, ◌&&◌, List, [], ◌∷◌, Option, Some, None, option_map, ℤ, pos, negsuc, int_le}
use Rattle.psy_base.specs.declared.limits.TheConstants.{LITERAL}

-- All of them, where each is there
abbrev pub all_some : {X : Type 0} → List (Option X) → Option (List X)
all_some [] = Some []
all_some (None ∷ rest) = None
all_some (Some x ∷ rest) = option_map (λ xs. x ∷ xs) (all_some rest)

-- The value is one of 32 bits: -2,147,483,648 to 2,147,483,647.
abbrev pub fits_32 : ℤ → Bool
fits_32 value = int_le (negsuc LITERAL) value && int_le value (pos LITERAL)
