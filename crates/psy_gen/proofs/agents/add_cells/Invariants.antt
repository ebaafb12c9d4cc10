-- What each loop of `agents::add_cells` keeps.
use Rattle.std.proofs.Common.{◌≡◌, ◌++◌}
use Rattle.std.specs.Prelude.{replicate}
use Rattle.psy_gen.proofs.agents.add_cells.Given as goal

abbrev pub invariant-loop : goal.invariant-loop
invariant-loop l = l.cells ≡ l.fn.cells ++ replicate l.counter l.slot.init
