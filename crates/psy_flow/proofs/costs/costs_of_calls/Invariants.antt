-- What each loop of `costs::costs_of_calls` keeps.
use Rattle.std.proofs.Common.{◌≡◌, [], take}
use Rattle.psy_flow.specs.Tops.{capped_from}
use Rattle.psy_flow.proofs.costs.costs_of_calls.Given as goal

abbrev pub invariant-loop-at : goal.invariant-loop-at
invariant-loop-at l = take l.at l.row ≡ capped_from l.gauge [] (take l.at l.functions)
