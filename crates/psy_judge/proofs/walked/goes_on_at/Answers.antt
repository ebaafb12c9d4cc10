-- What is left of the proof of `walked::goes_on_at`.
use Rattle.std.proofs.Common.{ap, ◌∙◌}
use Rattle.psy_lists.proofs.lemmas.Places.{read_is}
use Rattle.psy_judge.specs.Walked.{onward_of}
use Rattle.psy_judge.proofs.walked.goes_on_at.Goals as goal

pub returns : goal.returns
returns c i at =
    let read = c.index-instrs-place.result in
    c.goes_on.ensures ∙ ap (λ j. onward_of j c.args.place) (read_is c.args.instrs.now c.args.place read i c.requires c.index-instrs-place.is at)
