-- The times that a dump has.
use Rattle.std.specs.Prelude.{ℕ, ◌<◌, ◌==◌, List, [], ◌∷◌, ◌++◌, Option, None, Some, codes, decimal, if◌then◌else◌}
use Rattle.psy_log.specs.declared.note.Note.{Note}
use Rattle.psy_wave.specs.Changes.{later, time_of}

-- A time, where it isn't that which was written last
abbrev pub times_by : ℕ → Option ℕ → List ℕ
times_by last None = []
times_by last (Some time) = if time == last then [] else time ∷ []

-- The times that are written for notes, behind one that was written
abbrev pub times : ℕ → List Note → List ℕ
times last [] = []
times last (note ∷ notes) = times_by last (time_of note) ++ times (later last (time_of note)) notes

-- The line of a time
abbrev pub time_line : ℕ → List ℕ
time_line time = codes "#" ++ decimal time ++ codes "\n"

-- The times rise, all behind this one.
abbrev pub Rise : ℕ → List ℕ → Type 0
Rise last [] = Unit {0}
Rise last (time ∷ times) = (last < time) × Rise time times
