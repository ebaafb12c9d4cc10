-- What is left of the proof of `plan::drawn_of`.
use Rattle.psy_dates.specs.declared.plan.Plan.{Plan}
use Rattle.psy_run.specs.Planned.{IsStatedPlan}
use Rattle.psy_run.specs.Supplies.{supply_of}
use Rattle.psy_run.proofs.PlanLemmas.{each_apart, is_feasible_for}
use Rattle.psy_run.proofs.plan.drawn_of.Goals as goal

pub returns-clause-plan : goal.returns-clause-plan
returns-clause-plan c =
    let supply = c.args.supply in
    let plan : Plan = record { unit = c.args.unit; code = supply.code; nexts = supply.ways.nexts; sizes = supply.sizes; until = c.args.until } in
    let is = c.supplies.ensures c.args.unit c.args.until (supply_of supply) c.requires.text c.requires.supplied in
    let stated : IsStatedPlan plan = record {
      compiled = record { text = c.requires.text; alike = c.requires.alike; followed = is.followed };
      buffers = is.sized;
      supplied = is_feasible_for c.one_graph.ensures.timing (each_apart c.one_of_them.ensures.few c.one_of_them.ensures.homes) plan c.requires.text.bare is.followed _ is;
    } in
    record { made = c.requires.code; stated = stated; fits = c.fits.ensures plan supply.ways stated c.requires.ways }

pub returns-clause-drawn : goal.returns-clause-drawn
returns-clause-drawn c =
    let supply = c.args.supply in
    let is = c.supplies.ensures c.args.unit c.args.until (supply_of supply) c.requires.text c.requires.supplied in
    (c.one_graph.ensures.by_nexts c.args.unit supply.ways.nexts supply.graphs is.followed).0 is.drawn
