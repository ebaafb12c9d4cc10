-- What the loop of `agents::slot_of` keeps.
use Rattle.std.proofs.Common.{◌≡◌, drop}
use Rattle.psy_snap.specs.Plans.{slot_of}
use Rattle.psy_snap.proofs.agents.slot_of.Given as goal

abbrev pub invariant-slots : goal.invariant-slots
invariant-slots l = slot_of (drop l.slot-index l.slots) l.left ≡ slot_of l.fn.slots l.fn.cell
