-- What is left of the proof of `plan::Plan::add_variables`.
use Rattle.std.proofs.Common.{[], take, sym, append-nil, ◌∙◌, arith}
use Rattle.std.specs.List.{flat_map}
use Rattle.std.proofs.lemmas.List.Folds.{list_any_at}
use Rattle.psy_draw.specs.Gathering.{asks_variable}
use Rattle.psy_draw.specs.Planning.{AddsLanes}
use Rattle.psy_draw.specs.Sources.{inputs_of, names_in, place_in, variables_of}
use Rattle.psy_draw.proofs.Carrying.{carried, carried_all, named_more}
use Rattle.psy_draw.proofs.Lanes.{adds_both, adds_none}
use Rattle.psy_draw.proofs.plan.Plan.add_variables.Goals as goal

pub loop-note-init : goal.loop-note-init
loop-note-init c = record { lanes = λ notes draws. adds_none (place_in c.args.source) c.args.self.now.lanes.items; inputs = λ notes draws. sym (append-nil _) }

pub loop-note-preserved : goal.loop-note-preserved
loop-note-preserved c = record {
  lanes = λ notes draws. carried (λ s. AddsLanes (place_in c.args.source) s c.args.self.now.lanes.items c.add_variable.new.self.lanes.items) (variables_of c.args.source notes) [] c.args.source.summary.now c.loop-note.note-index _ c.loop-note-test.true
      (adds_both (place_in c.args.source) (flat_map (variables_of c.args.source notes) (take c.loop-note.note-index c.args.source.summary.now)) _ c.args.self.now.lanes.items c.loop-note.self.lanes.items c.add_variable.new.self.lanes.items (c.loop-note.invariant.lanes notes draws) (c.in_ok-add_variable.ensures.lanes notes draws));
  inputs = λ notes draws. named_more (λ n. n.now) (inputs_of c.args.source notes) c.args.source.summary.now c.loop-note.note-index _ c.args.self.now.inputs.items c.loop-note.self.inputs.items c.add_variable.new.self.inputs.items c.loop-note-test.true
      (c.loop-note.invariant.inputs notes draws) (c.in_ok-add_variable.ensures.inputs notes draws);
}

pub returns-clause-lanes : goal.returns-clause-lanes
returns-clause-lanes c = λ notes draws.
    carried_all (λ s. AddsLanes (place_in c.args.source) s c.args.self.now.lanes.items c.loop-note.self.lanes.items) (variables_of c.args.source notes) [] c.args.source.summary.now c.loop-note.note-index (omega (arith, c.loop-note-test.false)) (c.loop-note.invariant.lanes notes draws)

pub add_variable-requires : goal.add_variable-requires
add_variable-requires c = λ name asks.
    c.requires.variables name
    ∙ list_any_at (asks_variable (names_in c.args.source) name) c.args.source.summary.now c.loop-note.note-index _ c.loop-note-test.true asks
