-- What is written beside lines and marks.
use Rattle.std.specs.Prelude.{ℕ, ℤ, List, [], ◌∷◌, ◌++◌, Option, None, Some, codes, decimal, length}
use Rattle.std.specs.Fmt.{signed_decimal}
use Rattle.psy_arith.specs.declared.operators.Trap.{Trap}
use Rattle.psy_draw.specs.declared.layout.TheConstants.{LABEL_LETTER}
use Rattle.psy_draw.specs.declared.markup.TheConstants.{LABEL}
use Rattle.psy_draw.specs.Places.{width_of}
use Rattle.psy_log.specs.Forms.{trap_name}
use Rattle.psy_page.specs.Templates.{fill}

-- A value at a place
abbrev pub label_text : ℕ → ℕ → ℤ → List ℕ
label_text x y value = fill LABEL.now (decimal x ∷ decimal y ∷ signed_decimal value ∷ [])

-- The cause of a stop, by its trap, or none where a budget was spent
abbrev pub cause_of : Option Trap → List ℕ
cause_of None = codes "overrun"
cause_of (Some kind) = codes "trap " ++ trap_name kind

-- How wide these letters are as a label
abbrev pub label_width : List ℕ → ℕ
label_width letters = width_of (length letters) LABEL_LETTER
