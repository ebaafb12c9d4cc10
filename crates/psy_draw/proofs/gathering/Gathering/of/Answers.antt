-- What is left of the proof of `gathering::Gathering::of`.
use Rattle.std.proofs.Common.{[], sym, subst, append-nil}
use Rattle.psy_draw.specs.Columns.{is_there_still}
use Rattle.psy_draw.specs.Gathering.{AreColumns, AreStops}
use Rattle.psy_draw.specs.Planning.{Are}
use Rattle.psy_draw.specs.Scales.{place_by}
use Rattle.psy_draw.proofs.gathering.Gathering.of.Goals as goal

pub returns-clause-none : goal.returns-clause-none
returns-clause-none c = λ homes values are.
    let place = place_by c.args.scale.now in
    record {
      stops = subst (AreStops place [] c.new.result.lanes.items) (sym c.new.ensures.room) (subst (Are place []) (sym c.new.ensures.lanes) tt);
      variables = subst (λ vs. AreColumns place (is_there_still place) vs c.in_ok-of_variables.field-0) (λ i name. sym (append-nil (values name)) i)
          (c.in_ok-of_variables.ensures.first values are);
      streams = c.in_ok-of_streams.ensures.none place;
    }
