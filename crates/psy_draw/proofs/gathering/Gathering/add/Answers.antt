-- What is left of the proof of `gathering::Gathering::add`.
use Rattle.std.proofs.Common.{[], map, sym, subst}
use Rattle.std.specs.Prelude.{string_bytes}
use Rattle.std.specs.List.{flat_map}
use Rattle.std.proofs.lemmas.List.{flat_map_more}
use Rattle.psy_draw.specs.Columns.{is_there, is_there_still}
use Rattle.psy_draw.specs.Gathering.{AreColumns, AreStops, values_behind}
use Rattle.psy_draw.specs.Homes.{housed_of}
use Rattle.psy_draw.specs.Lanes.{message_values, messages_within, values_within}
use Rattle.psy_draw.specs.Planning.{stop_lanes}
use Rattle.psy_draw.specs.Scales.{place_by}
use Rattle.psy_draw.proofs.Fed.{tells_more}
use Rattle.psy_draw.proofs.gathering.Gathering.add.Goals as goal

pub returns-clause-gathers : goal.returns-clause-gathers
returns-clause-gathers c = λ values notes known gathers.
    let scale = c.args.by.scale.now in
    let place = place_by scale in
    let note = c.args.note.now in
    let stops = stop_lanes scale.to (map housed_of c.args.by.homes.now) (map string_bytes c.args.by.names.now) in
    let value = values_within scale.from scale.to in
    let message = messages_within scale.from scale.to in
    record {
      stops = subst (λ shown. AreStops place shown c.add.new.self.lanes.items c.add.new.self.full) (sym (tells_more stops notes note))
          (c.in_ok-add.ensures known (flat_map stops notes) gathers.stops);
      variables = subst (λ vs. AreColumns place (is_there_still place) vs c.add_value.new.self) (λ i name. flat_map_more (value name) (values name) notes note i)
          (c.in_ok-add_value.ensures.added (values_behind scale values notes) gathers.variables);
      streams = subst (λ vs. AreColumns place (is_there place) vs c.add_message.new.self) (λ i name. flat_map_more (message name) [] notes note i)
          (c.in_ok-add_message.ensures.added (λ name. message_values scale.from scale.to name notes) gathers.streams);
    }
