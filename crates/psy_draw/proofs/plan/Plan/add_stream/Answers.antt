-- What is left of the proof of `plan::Plan::add_stream`.
use Rattle.std.proofs.Common.{ap, ◌∙◌}
use Rattle.psy_lists.proofs.lemmas.Tests.{both}
use Rattle.psy_draw.specs.Gathering.{asks_stream}
use Rattle.psy_draw.specs.Sources.{names_in}
use Rattle.psy_draw.proofs.Eachs.{itself}
use Rattle.psy_draw.proofs.plan.Plan.add_stream.Goals as goal

pub returns-in-StreamEnd-clause-lanes : goal.returns-in-StreamEnd-clause-lanes
returns-in-StreamEnd-clause-lanes c = rw c.in-StreamEnd.is c.add_messages.ensures.lanes

pub add_messages-requires : goal.add_messages-requires
add_messages-requires c = λ asked.
    let name = c.in-StreamEnd.stream.now in
    c.requires name (ap (asks_stream (names_in c.args.source) name) c.in-StreamEnd.is ∙ both _ _ (itself name) asked)
