-- What each loop of `forms::read_note` keeps.
use Rattle.std.proofs.Common.{◌≡◌, ◌≢◌, ℕ, ◌<◌, List, ◌++◌}
use Rattle.std.specs.Prelude.{slice_index_or}
use Rattle.psy_log.specs.declared.note.Note.{Note}
use Rattle.psy_log.specs.Forms.{line_of, says}
use Rattle.psy_notes.specs.Notes.{IsTold}
use Rattle.psy_notes.proofs.forms.read_note.Given as goal

-- No note of the forms so far
abbrev pub invariant-forms : goal.invariant-forms
invariant-forms l = (note : Note) (more : List ℕ) → IsTold note → (k : ℕ) → k < l.form-index → slice_index_or l.forms k (says note).0 ≡ (says note).0 → l.fn.text ≢ line_of note ++ more
