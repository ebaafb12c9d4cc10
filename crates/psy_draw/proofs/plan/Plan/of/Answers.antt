-- What is left of the proof of `plan::Plan::of`.
use Rattle.std.proofs.Common.{◌++◌}
use Rattle.std.specs.List.{flat_map}
use Rattle.psy_draw.specs.Sources.{place_in, streams_of, variables_of}
use Rattle.psy_draw.proofs.Lanes.{adds_behind, adds_both}
use Rattle.psy_draw.proofs.plan.Plan.of.Goals as goal

pub returns-clause-lanes : goal.returns-clause-lanes
returns-clause-lanes c = λ shown notes are draws.
    let place = place_in c.args.source in
    let variables = flat_map (variables_of c.args.source notes) c.args.source.summary.now in
    let streams = flat_map (streams_of c.args.source notes) c.args.source.summary.now in
    adds_behind place shown (variables ++ streams) c.args.stops.items c.add_streams.new.self.lanes.items are
    (adds_both place variables streams c.args.stops.items c.add_variables.new.self.lanes.items c.add_streams.new.self.lanes.items
    (c.in_ok-add_variables.ensures.lanes notes draws) (c.in_ok-add_streams.ensures.lanes notes draws))
