-- What is asked of the publications of a trace: each variable has one at each of its dates, in the place of its ring that is due.
use Rattle.std.specs.Prelude.{ℕ, ◌%◌, Bool, ◌==◌, ◌&&◌, nat_le, length}
use Rattle.psy_clock.specs.Dates.{count, date}
use Rattle.psy_audit.specs.declared.said.Publication.{Publication}
use Rattle.psy_audit.specs.Traces.{Judged, Lines, publications_of, publishing_in, ring_in}

-- A publication is the one of a number: at that date of the variable, and in the place of that number, modulo the size of the ring.
abbrev pub is_number : Judged → ℕ → Publication → Bool
is_number j number p = p.date == date (publishing_in j p.variable) number && p.slot == number % ring_in j p.variable

-- A publication is the next one of its variable behind the lines before.
abbrev pub is_next : Judged → Lines → Publication → Bool
is_next j before p = is_number j (length (publications_of p.variable before)) p

-- A variable has a publication for each date up to the last one.
abbrev pub is_published : Judged → Lines → ℕ → Bool
is_published j all variable = nat_le (count (publishing_in j variable) j.until) (length (publications_of variable all))
