-- Texts that are a run's log.
use Rattle.std.specs.Prelude.{◌≡◌, ℕ, List, None}
use Rattle.psy_log.specs.declared.note.Note.{Note}
use Rattle.psy_notes.specs.Stands.{run_begins}
use Rattle.psy_notes.specs.Texts.{IsText}
use Rattle.psy_passes.specs.Listing.{first_unlisted}

-- The text is the lines of these notes, which `psyc run` may have written, and its summary lists each name that they have.
pub record IsLog (text : List ℕ) (notes : List Note) : Type 0 where
  pub lines : IsText run_begins text notes
  pub listed : first_unlisted notes ≡ None
