-- What is left of the proof of `picture::picture_of`.
use Rattle.std.proofs.Common.{map}
use Rattle.std.specs.Prelude.{string_bytes}
use Rattle.psy_draw.specs.Homes.{housed_of}
use Rattle.psy_draw.specs.Silences.{silent_of}
use Rattle.psy_draw.proofs.Pictured.{file_of_window}
use Rattle.psy_draw.proofs.picture.picture_of.Goals as goal

pub file_by-requires : goal.file_by-requires
file_by-requires c = record { variables = c.requires.variables; streams = c.requires.streams }

pub returns-clause-picture : goal.returns-clause-picture
returns-clause-picture c = λ window notes has scale gathers.
    file_of_window c.args.title.now window (record { silences = map silent_of c.args.silences.now; homes = map housed_of c.args.by.homes.now }) (map string_bytes c.args.by.names.now) notes c.args.by.scale.now.from c.args.by.scale.now.to
    c.args.by.scale.now.grain c.in_ok-file.file.items scale.from scale.to scale.grain
    (c.in_ok-file.ensures.picture notes (record {
      draws = record { variables = gathers.variables; streams = gathers.streams };
      stops = gathers.stops;
      summary = has;
    }))
