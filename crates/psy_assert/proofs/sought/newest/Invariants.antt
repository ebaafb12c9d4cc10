-- What each loop of `sought::newest` keeps.
use Rattle.std.proofs.Common.{◌≡◌, take}
use Rattle.psy_assert.specs.Verdicts.{newest}
use Rattle.psy_assert.proofs.sought.newest.Given as goal

-- The newest so far
abbrev pub invariant-loop-note : goal.invariant-loop-note
invariant-loop-note l = l.found ≡ newest l.variable l.by (take l.note-index l.notes)
