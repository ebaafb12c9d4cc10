-- The axis of dates, and the grid.
use Rattle.std.specs.Prelude.{◌+◌, ◌-◌, ◌*◌, ◌/◌, ℕ, List, [], ◌∷◌, ◌++◌, codes, cond, decimal, nat_le}
use Rattle.std.specs.List.{flat_map, range_with_len}
use Rattle.psy_draw.specs.declared.axis.TheConstants.{AXIS, DATE, GRID_LINE, LONGEST_STEP, STEPS}
use Rattle.psy_draw.specs.declared.markup.TheConstants.{GROUP_END, PATH, PATH_END}
use Rattle.psy_page.specs.Templates.{fill}

-- Of these steps the first by which so many dates are crossed in at most 16, and the longest one where none of them does
abbrev pub step_among : List ℕ → ℕ → ℕ
step_among [] dates = LONGEST_STEP
step_among (step ∷ steps) dates = cond (nat_le dates (16 * step)) step (step_among steps dates)

-- The step from tick to tick of so many dates: of 1, 2 and 5 and what is ten, a hundred, .. times these the least by which they are crossed in at most 16
abbrev pub step_of : ℕ → ℕ
step_of dates = step_among STEPS dates

-- The first multiple of a step that isn't before a date
abbrev pub first_tick : ℕ → ℕ → ℕ
first_tick from step = (from + step - 1) / step * step

-- A date alone, where it isn't past the last one
abbrev pub tick_at : ℕ → ℕ → List ℕ
tick_at last date = cond (nat_le date last) (date ∷ []) []

-- The dates at which the grid has lines: multiples of the step, of which at most 17 are tried
abbrev pub tick_by : ℕ → ℕ → ℕ → ℕ → List ℕ
tick_by from to step number = tick_at to (first_tick from step + number * step)

abbrev pub ticks_of : ℕ → ℕ → List ℕ
ticks_of from to = flat_map (tick_by from to (step_of (to - from))) (range_with_len 0 17)

-- The line of a date, by the places of dates in a plot that begins at a place, from below the upper axis to a height
abbrev pub grid_line : (ℕ → ℕ) → ℕ → ℕ → ℕ → List ℕ
grid_line place left bottom date = fill GRID_LINE.now (decimal (left + place date) ∷ decimal 56 ∷ decimal bottom ∷ [])

-- The lines of some dates
abbrev pub grid_text : (ℕ → ℕ) → List ℕ → ℕ → ℕ → List ℕ
grid_text place ticks left bottom = fill PATH.now (codes "grid" ∷ []) ++ (flat_map (grid_line place left bottom) ticks ++ PATH_END.now)

-- A date at its place
abbrev pub axis_date : (ℕ → ℕ) → ℕ → List ℕ
axis_date place date = fill DATE.now (decimal (place date) ∷ decimal date ∷ [])

-- The axis at a place: the word `date`, and some dates
abbrev pub axis_text : (ℕ → ℕ) → List ℕ → ℕ → ℕ → List ℕ
axis_text place ticks left top =
    fill AXIS.now (decimal left ∷ decimal top ∷ decimal (left - 12) ∷ []) ++ (flat_map (axis_date place) ticks ++ GROUP_END.now)
