-- What each loop of `unlisted::first_unlisted` keeps.
use Rattle.std.proofs.Common.{◌≡◌, ℕ, ◌<◌, true, get_or}
use Rattle.psy_log.specs.declared.note.Note.{Note}
use Rattle.psy_draw.specs.Tables.{is_among}
use Rattle.psy_draw.proofs.unlisted.first_unlisted.Given as goal

-- The names so far are listed
abbrev pub invariant-loop-index : goal.invariant-loop-index
invariant-loop-index l = (k : ℕ) (d : Note) → k < l.index → is_among l.listed (get_or l.notes k d) ≡ true
