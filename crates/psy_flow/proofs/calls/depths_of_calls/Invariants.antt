-- What each loop of `calls::depths_of_calls` keeps.
use Rattle.std.proofs.Common.{◌≡◌, map, take}
use Rattle.psy_flow.specs.Counted.{held, counted_calls}
use Rattle.psy_flow.proofs.calls.depths_of_calls.Given as goal

abbrev pub invariant-loop-at : goal.invariant-loop-at
invariant-loop-at l = take l.at (map held l.row) ≡ counted_calls (take l.at l.functions)
