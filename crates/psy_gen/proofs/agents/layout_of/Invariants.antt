-- What each loop of `agents::layout_of` keeps.
use Rattle.std.proofs.Common.{◌≡◌, take, map}
use Rattle.psy_gen.proofs.agents.layout_of.Given as goal

abbrev pub invariant-loop-slot : goal.invariant-loop-slot
invariant-loop-slot l = l.layout ≡ map (λ s. s.cells) (take l.slot-index l.slots)
