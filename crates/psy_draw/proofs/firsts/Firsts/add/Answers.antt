-- What is left of the proof of `firsts::Firsts::add`.
use Rattle.std.proofs.Common.{◌∙◌}
use Rattle.psy_draw.specs.Gathering.{first_values}
use Rattle.psy_draw.proofs.Last.{first_said, first_unsaid}
use Rattle.psy_draw.proofs.firsts.Firsts.add.Goals as goal

pub returns-in-Some-clause-told : goal.returns-in-Some-clause-told
returns-in-Some-clause-told c = λ notes are name k at.
    c.put.ensures.told (first_values c.args.from notes) are name k at
    ∙ first_said c.args.from notes c.args.note.now name c.value_before.result c.in-Some.said c.in-Some.is (c.value_before.ensures name)

pub returns-in-None-clause-told : goal.returns-in-None-clause-told
returns-in-None-clause-told c = λ notes are name k at.
    are name k at ∙ first_unsaid c.args.from notes c.args.note.now name c.value_before.result c.in-None.is (c.value_before.ensures name)
