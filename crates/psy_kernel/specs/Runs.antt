-- How far a kernel's run is when all lines of its last date were given, and at its end.
use Rattle.std.specs.Prelude.{◌+◌, ◌*◌, length, None}
use Rattle.psy_kernel.specs.Progress.{Progress, lines_told}

-- All lines of the date done last were given.
abbrev pub all_given : Progress → Progress
all_given p = record p { given = length (lines_told p) }

-- Its last date was done, all cycles before it, and all its lines were given; the last step was no unit.
abbrev pub ended : Progress → Progress
ended p = all_given (record p { dates = p.plan.until + 1; cycles = p.plan.until * p.plan.unit.quantum; last = None })
