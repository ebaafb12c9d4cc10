-- The plan of a program that has one input.
use Rattle.std.specs.Prelude.{[], ◌∷◌, None, neg_ℤ, pos}
use Rattle.psy_clock.specs.declared.clock.Clock.{Clock}
use Rattle.psy_dates.specs.declared.plan.Plan.{Plan}
use Rattle.psy_tree.specs.declared.unit.VarDecl.{VarDecl}

-- The clock `c` of every tenth tick
abbrev pub tenth : Clock
tenth = record { period = 10; first = 0 }

-- The input `v`, -2 at first, of which the last two values can be looked at
abbrev pub input : VarDecl
input = record { name = 118 ∷ []; owner = None; clock = 0; init = neg_ℤ (pos 2); depth = 2 }

-- Up to date 20
abbrev pub plan : Plan
plan = record {
  unit = record { quantum = 1; clocks = tenth ∷ []; clock_names = (99 ∷ []) ∷ []; variables = input ∷ []; streams = []; functions = []; agents = [] };
  code = record { instrs = []; agents = []; functions = [] };
  nexts = [];
  sizes = record { rings = 2 ∷ []; queues = []; outboxes = [] };
  until = 20;
}
