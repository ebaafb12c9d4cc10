-- What is left of the proof of `picture::filled`.
use Rattle.std.proofs.Common.{[], map, refl, sym, subst, ◌∙◌}
use Rattle.std.specs.Prelude.{string_bytes}
use Rattle.psy_draw.specs.Gathering.{asks_stream, asks_variable, first_values}
use Rattle.psy_draw.specs.Homes.{housed_of}
use Rattle.psy_draw.specs.Listing.{Lists}
use Rattle.psy_draw.proofs.Refused.{ok_more}
use Rattle.psy_draw.proofs.picture.filled.Goals as goal

pub picture_of-requires-clause-variables : goal.picture_of-requires-clause-variables
picture_of-requires-clause-variables c =
    subst (Lists (asks_variable (map string_bytes c.args.asked.names.now)) c.args.notes.now) (sym (c.in_ok-add_all.ensures.variables ∙ c.in_ok-gathering.ensures.variables)) c.requires.names

pub picture_of-requires-clause-streams : goal.picture_of-requires-clause-streams
picture_of-requires-clause-streams c =
    subst (Lists (asks_stream (map string_bytes c.args.asked.names.now)) c.args.notes.now) (sym c.in_ok-add_all.ensures.streams) c.in_ok-gathering.ensures.streams

pub returns-clause-picture : goal.returns-clause-picture
returns-clause-picture c =
    let notes = c.args.notes.now in
    let scale = c.args.scale.now in
    let first = first_values scale.from notes in
    let gathers = c.in_ok-add_all.ensures.gathers first [] c.requires.known (c.in_ok-gathering.ensures.none (map housed_of c.args.asked.known.homes.now) first c.requires.firsts) in
    ok_more c.picture_of.result (λ svg drawn window is. drawn window notes refl is gathers) c.picture_of.ensures.picture
