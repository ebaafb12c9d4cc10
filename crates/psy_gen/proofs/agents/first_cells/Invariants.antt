-- What each loop of `agents::first_cells` keeps.
use Rattle.std.proofs.Common.{◌≡◌, take}
use Rattle.std.specs.Prelude.{replicate}
use Rattle.std.specs.List.{flat_map}
use Rattle.psy_gen.proofs.agents.first_cells.Given as goal

abbrev pub invariant-loop-slot : goal.invariant-loop-slot
invariant-loop-slot l = l.cells ≡ flat_map (λ s. replicate s.cells s.init) (take l.slot-index l.slots)
