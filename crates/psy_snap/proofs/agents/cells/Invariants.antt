-- What the loop of `agents::cells` keeps.
use Rattle.std.proofs.Common.{◌≡◌, [], drop, map}
use Rattle.psy_snap.specs.Cuts.{cell_of}
use Rattle.psy_snap.specs.Plans.{types_of}
use Rattle.psy_snap.specs.Reading.{cells_at}
use Rattle.psy_snap.proofs.agents.cells.Given as goal

abbrev pub invariant-cells : goal.invariant-cells
invariant-cells l = cells_at (drop l.index (map cell_of (types_of l.fn.plan l.fn.number))) l.cells l.rest ≡ cells_at (map cell_of (types_of l.fn.plan l.fn.number)) [] l.fn.bytes
