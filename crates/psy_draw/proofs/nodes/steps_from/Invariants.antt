-- What each loop of `nodes::steps_from` keeps.
use Rattle.std.proofs.Common.{◌≡◌, take}
use Rattle.std.specs.List.{flat_map}
use Rattle.psy_draw.specs.Folded.{step_of}
use Rattle.psy_draw.proofs.nodes.steps_from.Given as goal

-- What was found so far
abbrev pub invariant-loop-note : goal.invariant-loop-note
invariant-loop-note l = l.steps.items ≡ flat_map (step_of l.nodes l.point) (take l.note-index l.notes)
