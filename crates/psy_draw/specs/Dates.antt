-- The dates of notes.
use Rattle.std.specs.Prelude.{ℕ, List, max}
use Rattle.std.specs.List.{fold}
use Rattle.psy_log.specs.declared.note.Note.{Note}
use Rattle.psy_log.specs.declared.note.Note.TheVariants as note

-- The date of a note, and 0 where it has none
abbrev pub date_of : Note → ℕ
date_of (note.StopOverrun date agent) = date
date_of (note.StopTrap date agent kind) = date
date_of (note.Value date variable value) = date
date_of (note.Message date stream value) = date
date_of (note.End until) = until
date_of _ = 0

-- The greatest date that notes have
abbrev pub last_date : List Note → ℕ
last_date notes = fold (λ last note. max (date_of note) last) 0 notes
