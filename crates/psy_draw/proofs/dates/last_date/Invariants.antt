-- What each loop of `dates::last_date` keeps.
use Rattle.std.proofs.Common.{◌≡◌, take}
use Rattle.psy_draw.specs.Dates.{last_date}
use Rattle.psy_draw.proofs.dates.last_date.Given as goal

-- The last date so far
abbrev pub invariant-loop-note : goal.invariant-loop-note
invariant-loop-note l = l.last ≡ last_date (take l.note-index l.notes)
