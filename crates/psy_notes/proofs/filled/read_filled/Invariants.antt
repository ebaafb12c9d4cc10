-- What each loop of `filled::read_filled` keeps.
use Rattle.std.proofs.Common.{◌+◌, ◌≤◌, length, map}
use Rattle.psy_log.specs.Table.{place_of}
use Rattle.psy_notes.specs.Reading.{said_of}
use Rattle.psy_notes.proofs.Filling.{Halfway}
use Rattle.psy_notes.proofs.filled.read_filled.Given as goal

abbrev pub invariant-filling : goal.invariant-filling
invariant-filling l =
    Halfway (map place_of l.fn.fields) l.fn.text (map said_of l.contents.items) (map place_of l.left) l.rest
    × (length l.contents.items + length l.left ≤ 7)

abbrev pub decreases-filling : goal.decreases-filling
decreases-filling l = length l.left
