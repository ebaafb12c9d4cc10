-- What the loop of `agents::copies` keeps.
use Rattle.std.proofs.Common.{◌≡◌, drop}
use Rattle.psy_image.specs.Formats.{each}
use Rattle.psy_image.specs.Images.{copies, copy}
use Rattle.psy_image.specs.Reading.{read}
use Rattle.psy_image.proofs.agents.copies.Given as goal

abbrev pub invariant-owned : goal.invariant-owned
invariant-owned l = read (each (drop l.variable-index l.owned) copy l.copies) l.rest ≡ read (copies l.owned) l.bytes
