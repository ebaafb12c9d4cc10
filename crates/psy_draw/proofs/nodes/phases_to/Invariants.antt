-- What each loop of `nodes::phases_to` keeps.
use Rattle.std.proofs.Common.{◌≡◌, take}
use Rattle.std.specs.List.{flat_map}
use Rattle.psy_draw.specs.Folded.{phase_to}
use Rattle.psy_draw.proofs.nodes.phases_to.Given as goal

-- What was found so far
abbrev pub invariant-loop-step : goal.invariant-loop-step
invariant-loop-step l = l.phases.items ≡ flat_map (phase_to l.point) (take l.step-index l.steps)
