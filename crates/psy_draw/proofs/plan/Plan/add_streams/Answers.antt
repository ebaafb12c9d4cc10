-- What is left of the proof of `plan::Plan::add_streams`.
use Rattle.std.proofs.Common.{[], map, take, refl, ap, ◌∙◌, arith}
use Rattle.std.specs.List.{flat_map}
use Rattle.std.proofs.lemmas.List.Folds.{list_any_at}
use Rattle.psy_draw.specs.Gathering.{asks_stream}
use Rattle.psy_draw.specs.Planning.{AddsLanes}
use Rattle.psy_draw.specs.Sources.{names_in, place_in, streams_of}
use Rattle.psy_draw.proofs.Carrying.{carried, carried_all}
use Rattle.psy_draw.proofs.Lanes.{adds_both, adds_none}
use Rattle.psy_draw.proofs.plan.Plan.add_streams.Goals as goal

pub loop-note-init : goal.loop-note-init
loop-note-init c = record { lanes = λ notes draws. adds_none (place_in c.args.source) c.args.self.now.lanes.items; inputs = refl }

pub loop-note-preserved : goal.loop-note-preserved
loop-note-preserved c = record {
  lanes = λ notes draws. carried (λ s. AddsLanes (place_in c.args.source) s c.args.self.now.lanes.items c.add_stream.new.self.lanes.items) (streams_of c.args.source notes) [] c.args.source.summary.now c.loop-note.note-index _ c.loop-note-test.true
      (adds_both (place_in c.args.source) (flat_map (streams_of c.args.source notes) (take c.loop-note.note-index c.args.source.summary.now)) _ c.args.self.now.lanes.items c.loop-note.self.lanes.items c.add_stream.new.self.lanes.items (c.loop-note.invariant.lanes notes draws) (c.in_ok-add_stream.ensures.lanes notes draws));
  inputs = ap (map (λ n. n.now)) c.in_ok-add_stream.ensures.inputs ∙ c.loop-note.invariant.inputs;
}

pub returns-clause-lanes : goal.returns-clause-lanes
returns-clause-lanes c = λ notes draws.
    carried_all (λ s. AddsLanes (place_in c.args.source) s c.args.self.now.lanes.items c.loop-note.self.lanes.items) (streams_of c.args.source notes) [] c.args.source.summary.now c.loop-note.note-index (omega (arith, c.loop-note-test.false)) (c.loop-note.invariant.lanes notes draws)

pub add_stream-requires : goal.add_stream-requires
add_stream-requires c = λ name asks.
    c.requires.streams name
    ∙ list_any_at (asks_stream (names_in c.args.source) name) c.args.source.summary.now c.loop-note.note-index _ c.loop-note-test.true asks
