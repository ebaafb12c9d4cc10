-- What is left of the proof of `series::Series::add_told`.
use Rattle.std.proofs.Common.{arith, map, sym, ◌∙◌}
use Rattle.psy_draw.specs.Columns.{dated, rule}
use Rattle.psy_draw.specs.ByName.{AddsAt}
use Rattle.psy_draw.specs.Scales.{place_by}
use Rattle.psy_draw.proofs.Eachs.{each_added_back}
use Rattle.psy_draw.proofs.Refused.{if_ok}
use Rattle.psy_draw.proofs.series.Series.add_told.Goals as goal

pub returns-in-Some-clause-added : goal.returns-in-Some-clause-added
returns-in-Some-clause-added c =
    let place = place_by c.args.scale.now in
    let goes = rule c.args.of_variable place in
    let series = c.args.self.now in
    let v = dated c.args.told.date c.args.told.value in
    let new = c.add_at.new.columns in
    let slice = c.as_mut_slice.result.now in
    if_ok (AddsAt place goes c.in-Some.place v (map (λ cs. cs.items) slice) (map (λ cs. cs.items) new)) _ c.add_at.result
    (λ adds values are. each_added_back (λ cs. cs.items) place goes c.args.name.now v series.names series.columns.items slice new series.columns.len c.in-Some.place
    c.as_mut_slice.ensures.value (omega (arith, series.columns.ok)) series.as_many c.add_at.ensures.as_many (sym c.place.ensures.place ∙ c.in-Some.is) adds values are)
    c.add_at.ensures.added
