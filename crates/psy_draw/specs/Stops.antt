-- What is drawn of a stop.
use Rattle.std.specs.Prelude.{◌+◌, ◌-◌, ◌++◌, ℕ, List, [], ◌∷◌, Option, codes, cond, decimal, nat_le}
use Rattle.psy_arith.specs.declared.operators.Trap.{Trap}
use Rattle.psy_draw.specs.declared.layout.TheConstants.{LABEL_LETTER}
use Rattle.psy_draw.specs.declared.stops.TheConstants.{SILENCE, STOP_MARK, STOP_TEXT}
use Rattle.psy_draw.specs.Labels.{cause_of, label_width}
use Rattle.psy_draw.specs.Places.{width_of}
use Rattle.psy_draw.specs.Strokes.{dashes}
use Rattle.psy_page.specs.Templates.{fill}

-- How wide its cause and its date are
abbrev pub stop_width : ℕ → Option Trap → ℕ
stop_width date trap = label_width (cause_of trap) + width_of 4 LABEL_LETTER + label_width (decimal date)

-- Both, beginning or ending at a place
abbrev pub stop_text : List ℕ → ℕ → ℕ → Option Trap → List ℕ
stop_text anchor x date trap = fill STOP_TEXT.now (anchor ∷ decimal x ∷ cause_of trap ∷ decimal date ∷ [])

-- The same, and a dashed line from another place to the end of the plot
abbrev pub beside_text : List ℕ → ℕ → ℕ → ℕ → Option Trap → List ℕ
beside_text anchor x from date trap =
    stop_text anchor x date trap ++ dashes from SILENCE.now (decimal from ∷ decimal 960 ∷ [])

-- At the right of a mark the cause and the date, and a dashed line behind them; or these at its left where there is no room
abbrev pub beside_mark : ℕ → ℕ → Option Trap → List ℕ
beside_mark x date trap =
    cond (nat_le (x + 9 + stop_width date trap) 960) (beside_text (codes "start") (x + 9) (x + 9 + stop_width date trap + 5) date trap)
    (beside_text (codes "end") (x - 9) (x + 9) date trap)

-- What is drawn of a stop at a place: a mark, and what stands beside it
abbrev pub stop_inside : ℕ → ℕ → Option Trap → List ℕ
stop_inside x date trap = fill STOP_MARK.now (decimal x ∷ []) ++ beside_mark x date trap
