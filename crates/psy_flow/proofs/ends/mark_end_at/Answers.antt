-- What is left of the proof of `ends::mark_end_at`.
use Rattle.std.proofs.Common.{◌≡◌, Some, sym, ap, ◌∙◌}
use Rattle.std.specs.Prelude.{slice_get}
use Rattle.std.proofs.lemmas.Option.{slice_get-get_or}
use Rattle.psy_flow.specs.Walks.{end_of, ends_at, ends_there}
use Rattle.psy_flow.proofs.Marks.{marked_same}
use Rattle.psy_flow.proofs.ends.mark_end_at.Goals as goal

pub returns : goal.returns
returns c =
    let instrs = c.args.instrs.now in
    let place = c.args.place in
    let i = c.index-instrs-place.result in
    let here : slice_get instrs place ≡ Some i = slice_get-get_or instrs place i c.requires ∙ ap Some (sym c.index-instrs-place.is) in
    c.mark_end.ensures ∙ marked_same c.args.reached.now (ends_at i) (λ point. ends_there instrs point place) (λ point. ap (λ o. end_of o point) (sym here))
