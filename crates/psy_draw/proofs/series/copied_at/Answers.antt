-- What is left of the proof of `series::copied_at`.
use Rattle.std.proofs.Common.{rules, ◌≡◌, [], get_or, sym, ap, ◌∙◌}
use Rattle.std.proofs.lemmas.List.{get_or-map}
use Rattle.psy_draw.proofs.series.copied_at.Goals as goal

pub returns : goal.returns
returns c =
    let columns = c.args.columns.now in
    let item : get_or columns c.args.place c.index-columns-place.result ≡ c.index-columns-place.result = search rules in
    c.in_ok-copy.ensures.items ∙ c.as_slice.ensures.value
    ∙ sym (get_or-map (λ cs. cs.items) columns c.args.place c.index-columns-place.result [] c.requires ∙ ap (λ cs. cs.items) item)
