-- What is left of the proof of `series::Series::of_streams`.
use Rattle.std.proofs.Common.{[], map}
use Rattle.psy_draw.specs.Columns.{Keeps, is_there}
use Rattle.psy_draw.proofs.Eachs.{each_same}
use Rattle.psy_draw.proofs.Keeping.{keeps_nothing}
use Rattle.psy_draw.proofs.series.Series.of_streams.Goals as goal

pub returns-clause-none : goal.returns-clause-none
returns-clause-none c = λ place.
    each_same (λ name cs. Keeps place (is_there place) [] cs) [] c.args.names (map (λ cs. cs.items) c.in_ok-columns.columns.items) c.len.result c.len.ensures
    c.in_ok-columns.ensures (λ name. keeps_nothing place (is_there place))
