-- Which dates a claim is for.
use Rattle.std.specs.Prelude.{ℕ, ◌^◌, ◌-◌}
use Rattle.psy_assert.specs.declared.terms.Span.{Span}
use Rattle.psy_assert.specs.declared.terms.Span.TheVariants as span

-- The first date
abbrev pub first_date : Span → ℕ
first_date span.Always = 0
first_date (span.From date) = date
first_date (span.By date) = 0
first_date (span.At date) = date
first_date (span.Between from to) = from

-- The last date; the greatest number of 64 bits where there is none
abbrev pub last_date : Span → ℕ
last_date span.Always = 2 ^ 64 - 1
last_date (span.From date) = 2 ^ 64 - 1
last_date (span.By date) = date
last_date (span.At date) = date
last_date (span.Between from to) = to
