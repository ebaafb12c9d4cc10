-- What psyview reads of what psyc writes.
use Rattle.std.specs.Prelude.{ℕ, List, ⊤}
use Rattle.psy_log.specs.declared.note.Note.{Note}
use Rattle.psy_notes.specs.declared.stand.Stand.{Stand}
use Rattle.psy_notes.specs.Stands.{graph_begins, run_begins}
use Rattle.psy_notes.specs.Texts.{BreaksAt, IsText}
use Rattle.psy_run.specs.Services.{Service, Ran, Drawn, Tried, text_of}

-- The text is read from this stand on: it is that of some notes, and no line of it is out of form.
pub record IsRead (first : Stand) (text : List ℕ) : Type 0 where
  pub notes : List Note
  pub are : IsText first text notes
  pub in_form : (line : ℕ) → BreaksAt first text line → ⊥

-- What a run, a trial and `graph` write is read: the first two as a run, of which the trial writes the summary alone. What `check`, `make`,
-- `build`, `audit`, `trace` and `save` write isn't for reading, and of runs of an image or from a state nothing is said here.
abbrev pub IsReadBack : Service → Type 0
IsReadBack (Ran unit nexts sizes until inputs script) = IsRead run_begins (text_of (Ran unit nexts sizes until inputs script))
IsReadBack (Tried unit nexts sizes until) = IsRead run_begins (text_of (Tried unit nexts sizes until))
IsReadBack (Drawn unit graphs costs) = IsRead graph_begins (text_of (Drawn unit graphs costs))
IsReadBack service = ⊤
