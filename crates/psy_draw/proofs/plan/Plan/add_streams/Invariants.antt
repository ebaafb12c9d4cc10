-- What each loop of `plan::Plan::add_streams` keeps.
use Rattle.std.proofs.Common.{◌≡◌, List, map, take}
use Rattle.std.specs.List.{flat_map}
use Rattle.psy_log.specs.declared.note.Note.{Note}
use Rattle.psy_draw.specs.Planning.{AddsLanes}
use Rattle.psy_draw.specs.Sources.{Draws, place_in, streams_of}
use Rattle.psy_draw.proofs.plan.Plan.add_streams.Given as goal

-- The lanes so far
abbrev pub invariant-loop-note : goal.invariant-loop-note
invariant-loop-note l = record {
  lanes : (notes : List Note) → Draws l.source notes
      → AddsLanes (place_in l.source) (flat_map (streams_of l.source notes) (take l.note-index l.source.summary.now)) l.initial.self.lanes.items l.self.lanes.items;
  inputs : map (λ n. n.now) l.self.inputs.items ≡ map (λ n. n.now) l.initial.self.inputs.items;
}
