-- What is left of the proof of `images::plan_of`.
use Rattle.std.proofs.Common.{refl}
use Rattle.psy_dates.specs.declared.plan.Plan.{Plan}
use Rattle.psy_plan.specs.Supplies.{supply_of}
use Rattle.psy_run.proofs.images.plan_of.Goals as goal

pub returns-clause-plan : goal.returns-clause-plan
returns-clause-plan c =
    let checked = c.args.checked in
    let found = c.args.found in
    let plan : Plan = record { unit = checked.image.unit; code = checked.image.code; nexts = checked.ways.nexts; sizes = found.sizes; until = c.args.until } in
    let needs = c.requires in
    c.fits_by.ensures plan checked.ways (supply_of checked.ways.nexts found) needs.bare needs.inits needs.checked needs.supplied refl refl
