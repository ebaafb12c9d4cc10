-- What each loop of `nodes::nodes_of` keeps.
use Rattle.std.proofs.Common.{◌≡◌, take}
use Rattle.std.specs.List.{flat_map}
use Rattle.psy_draw.specs.Folded.{node_of}
use Rattle.psy_draw.proofs.nodes.nodes_of.Given as goal

-- What was found so far
abbrev pub invariant-loop-note : goal.invariant-loop-note
invariant-loop-note l = l.nodes.items ≡ flat_map node_of (take l.note-index l.notes)
