-- What is left of the proof of `series::Series::columns_of`.
use Rattle.std.proofs.Common.{[], get_or, map, sym, ap, subst, ◌∙◌}
use Rattle.psy_draw.specs.Columns.{Keeps}
use Rattle.psy_draw.proofs.series.Series.columns_of.Goals as goal

pub returns : goal.returns
returns c = λ place goes values are.
    let copy = c.in_ok-columns-in-Some.ensures ∙ ap (λ xs. get_or (map (λ cs. cs.items) xs) c.in-Some.place []) c.as_slice.ensures.value in
    subst (Keeps place goes (values c.args.name.now)) (sym copy) (are c.args.name.now c.in-Some.place (sym c.place.ensures.place ∙ c.in-Some.is))
