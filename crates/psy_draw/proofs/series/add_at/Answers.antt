-- What is left of the proof of `series::add_at`.
use Rattle.std.proofs.Common.{[], subst}
use Rattle.std.proofs.lemmas.List.{get_or-map, map-set}
use Rattle.psy_draw.specs.Columns.{Keeps, rule}
use Rattle.psy_draw.specs.Scales.{place_by}
use Rattle.psy_draw.proofs.series.add_at.Goals as goal

pub returns-clause-added : goal.returns-clause-added
returns-clause-added c =
    let place = place_by c.args.scale.now in
    let lane = c.add_told.new.columns in
    let old = get_or-map (λ cs. cs.items) c.args.columns.now c.args.place c.index-columns-place.result [] c.requires in (
      lane.items,
      map-set (λ cs. cs.items) c.args.columns.now c.args.place lane,
      λ values keeps. c.in_ok-add_told.ensures values (subst (Keeps place (rule c.args.of_variable place) values) old keeps),
    )
