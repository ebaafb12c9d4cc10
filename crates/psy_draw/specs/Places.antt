-- Where dates and values stand in the plot, in pixels.
use Rattle.std.specs.Int.{div_ceil}
use Rattle.std.specs.Prelude.{◌+◌, ◌-◌, ◌*◌, ◌/◌, ◌==◌, ◌-ℤ◌, ℕ, ℤ, Option, None, Some, cond, max, min, unsigned_abs}
use Rattle.psy_draw.specs.declared.layout.TheConstants.{MOST_LETTERS}
use Rattle.psy_draw.specs.declared.scale.TheConstants.{COLUMNS}
use Rattle.psy_draw.specs.declared.window.Window.{Window}

-- The last date that is shown: that of the window, or of the run where that is before it
abbrev pub window_end : Window → ℕ → ℕ
window_end window last = min window.to last

-- The place of a date: the first date stands at 0 and the last one at 960, and places are multiples of the grain
abbrev pub x_of : ℕ → ℕ → ℕ → ℕ → ℕ
x_of from to grain date = (max (min date to) from - from) * 960 / max (to - from) 1 / grain * grain

-- The grain where there are so many lanes, at most: before the last date all of them have 40,000 columns together, or one each
abbrev pub grain_of : ℕ → ℕ
grain_of lanes = div_ceil 960 (min (COLUMNS / max 1 (min lanes COLUMNS)) 960)

-- Where a lane that is silent from a date on is so, by the places of dates; the right end of the plot, where it isn't
abbrev pub silent_place : (ℕ → ℕ) → Option ℕ → ℕ
silent_place place None = 960
silent_place place (Some date) = place date

-- The width of so many letters, each of so many hundredths of a pixel; no more than a hundred letters are measured
abbrev pub width_of : ℕ → ℕ → ℕ
width_of letters letter = (min letters MOST_LETTERS * letter + 99) / 100

-- How far below the greatest value's place a value stands, of so many pixels: in the middle where they are one
abbrev pub depth_of : ℤ → ℤ → ℤ → ℕ → ℕ
depth_of least greatest value height =
    cond (unsigned_abs (greatest -ℤ least) == 0) (height / 2) (min (unsigned_abs (greatest -ℤ value) * height / unsigned_abs (greatest -ℤ least)) height)

-- Where the line of a variable is at a value: the greatest stands at 16, the least at 48
abbrev pub y_of : ℤ → ℤ → ℤ → ℕ
y_of least greatest value = 16 + depth_of least greatest value 32
