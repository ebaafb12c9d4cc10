-- What each loop of `file_shelf::read_some` keeps.
use Rattle.std.proofs.Common.{◌≡◌, ◌≤◌, ◌+◌, ◌-◌, vec_len}
use Rattle.psy_door.proofs.file_shelf.read_some.Given as goal

-- All that was taken was added
abbrev pub invariant-filling : goal.invariant-filling
invariant-filling g l = (vec_len l.bytes ≤ l.most + 1) × (l.taken ≡ vec_len l.bytes)

-- How many bytes may still be taken
abbrev pub decreases-filling : goal.decreases-filling
decreases-filling g l = l.most + 1 - vec_len l.bytes
