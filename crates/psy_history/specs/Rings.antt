-- What a ring holds of a variable, and how far back it is reached for.
use Rattle.std.specs.Prelude.{ℕ, zero, suc, ◌+◌, ◌-◌, ◌*◌, ◌%◌, ◌==◌, if◌then◌else◌, List, map, replicate, Option, Some, ℤ}
use Rattle.std.specs.List.{range_with_len}
use Rattle.psy_code.specs.Views.{Call, Past}
use Rattle.psy_history.specs.Actions.{System, publishing, variable_of}
use Rattle.psy_history.specs.History.{history}
use Rattle.psy_meaning.specs.RingSizes.{dates_between}
use Rattle.psy_base.specs.Extremes.{greater}
use Rattle.psy_history.specs.Visible.{past}

-- The last so many values that a variable published in the first dates, newest first, filled up with its first value.
abbrev pub ring_of : System → ℕ → ℕ → ℕ → List ℤ
ring_of s zero variable size = replicate size (variable_of s variable).init
ring_of s (suc date) variable size = map (past s (history s (suc date)) variable date) (range_with_len 0 size)

-- The place in a ring of the value of so many dates back, of those up to now: the publications have the places of their numbers modulo the size,
-- and the first values before them those that go before.
abbrev pub slot_of : ℕ → ℕ → ℕ → ℕ
slot_of size dates back = (dates + (size - 1) * (back + 1)) % size

-- The age of the value that a look of an action finds at a date: how many dates of the variable stand behind the one looked at
abbrev pub age_at : System → ℕ → ℕ → ℕ → ℕ → ℕ
age_at s variable back start date = back + dates_between (publishing s variable) start date

-- How far back a variable's ring is reached for, with what an instruction asks at a date, of an action that started at another
abbrev pub reach_with : System → ℕ → ℕ → ℕ → Option Call → Option ℕ → Option ℕ
reach_with s variable start date (Some (Past looked back)) reach = if looked == variable then greater (age_at s variable back start date) reach else reach
reach_with s variable start date call reach = reach
