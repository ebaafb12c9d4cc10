-- What each loop of `read::read` keeps.
use Rattle.std.proofs.Common.{◌≡◌, ◌++◌, length}
use Rattle.psy_notes.specs.Texts.{Leads, text_of}
use Rattle.psy_notes.proofs.read.read.Given as goal

abbrev pub invariant-reading : goal.invariant-reading
invariant-reading l = Leads l.fn.first l.notes.items l.stand × (l.fn.text ≡ text_of l.notes.items ++ l.rest)

abbrev pub decreases-reading : goal.decreases-reading
decreases-reading l = length l.rest
