-- The plan of a program that has nothing.
use Rattle.std.specs.Prelude.{[]}
use Rattle.psy_dates.specs.declared.plan.Plan.{Plan}

-- Up to date 0
abbrev pub plan : Plan
plan = record {
  unit = record { quantum = 1; clocks = []; clock_names = []; variables = []; streams = []; functions = []; agents = [] };
  code = record { instrs = []; agents = []; functions = [] };
  nexts = [];
  sizes = record { rings = []; queues = []; outboxes = [] };
  until = 0;
}
