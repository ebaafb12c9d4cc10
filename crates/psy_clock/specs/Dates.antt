-- The dates of clocks, how many stand up to a time, and which come after it.
use Rattle.std.specs.Prelude.{◌≡◌, ℕ, ◌+◌, ◌-◌, ◌*◌, ◌<◌, ◌≤◌, List, map, nat_le, nat_lt}
use Rattle.std.specs.List.{count_by, range_with_len}
use Rattle.psy_clock.specs.declared.clock.TheConstants.{PERIOD}
use Rattle.psy_clock.specs.declared.clock.Clock.{Clock}

-- A lawful clock: its first date is below its period, which is at most 10,000 ticks.
pub record IsClock (c : Clock) : Type 0 where
  pub first : c.first < c.period
  pub period : c.period ≤ PERIOD

-- Date number i of the clock, from 0. All its dates are these.
abbrev pub date : Clock → ℕ → ℕ
date c i = c.first + i * c.period

-- t is one of the clock's dates.
abbrev pub IsDate : Clock → ℕ → Type 0
IsDate c t = (i : ℕ) × (t ≡ date c i)

-- The first n dates.
abbrev pub dates : Clock → ℕ → List ℕ
dates c n = map (date c) (range_with_len 0 n)

-- How many dates stand at or below t. Date number i stands at i or above, so the first t + 1 dates have
-- them all.
abbrev pub count : Clock → ℕ → ℕ
count c t = count_by (λ d. nat_le d t) (dates c (t + 1))

-- How many dates stand below t.
abbrev pub count_below : Clock → ℕ → ℕ
count_below c t = count_by (λ d. nat_lt d t) (dates c t)

-- d is the k-th date above t: a date above t, and k dates stand above t and up to d.
abbrev pub IsAfter : Clock → ℕ → ℕ → ℕ → Type 0
IsAfter c t k d = IsDate c d × (t < d) × (count c d ≡ count c t + k)

-- d is the k-th date at or above t, from 0: a date, and k dates stand from t on and below d.
abbrev pub IsFrom : Clock → ℕ → ℕ → ℕ → Type 0
IsFrom c t k d = IsDate c d × (t ≤ d) × (count_below c d ≡ count_below c t + k)

-- The k-th date above t as a function: the dates up to t have the numbers below their count.
abbrev pub after_date : Clock → ℕ → ℕ → ℕ
after_date c t k = date c (count c t + (k - 1))

-- The k-th date at or above t, from 0, as a function: the dates below t have the numbers below their count.
abbrev pub from_date : Clock → ℕ → ℕ → ℕ
from_date c t k = date c (count_below c t + k)

-- The clock whose dates are the parent's dates n * i + m.
abbrev pub derived : Clock → ℕ → ℕ → Clock
derived c n m = record { period = n * c.period; first = c.first + m * c.period }
