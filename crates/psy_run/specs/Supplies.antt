-- What was found of a program that its processors can run.
use Rattle.psy_plan.specs.Supplies.{Supply}
use Rattle.psy_run.specs.declared.supply.Supplied.{Supplied}

-- What it stands for
abbrev pub supply_of : Supplied → Supply
supply_of supply =
    record { graphs = supply.graphs; nexts = supply.ways.nexts; sizes = supply.sizes; lines = supply.lines; extent = supply.extent }
