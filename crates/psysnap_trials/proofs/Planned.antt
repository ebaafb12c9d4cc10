-- The plan of a program that has nothing fits.
use Rattle.std.proofs.Common.{ℕ, [], refl, arith}
use Rattle.std.specs.List.{All}
use Rattle.psy_base.specs.declared.ways.Ways.{Ways}
use Rattle.psy_dates.specs.Plans.{IsPlan}
use Rattle.psy_history.specs.Fitting.{FitsBy}
use Rattle.psy_meaning.specs.ListedWays.{AreByPoint, AreWaysFor}
use Rattle.psy_meaning.specs.Units.{IsBare}
use Rattle.psysnap_trials.specs.Nothing.{plan}

abbrev pub ways : Ways
ways = record { nexts = []; looks = []; sends = []; delays = [] }

pub all_none : {X : Type 0} (P : X → Type 0) → All P []
all_none P = λ i d less. absurd (omega (arith, less))

pub by_none : {X : Type 0} (Are : ℕ → ℕ → X → Type 0) → AreByPoint [] Are []
by_none Are = record { counts = refl; each = λ agent point list one at there. absurd cc }

bare : IsBare plan.unit
bare = record {
  quantum = (omega arith, omega arith);
  clocks = all_none _;
  clock_names = all_none _;
  clocks_named = refl;
  clock_limit = omega arith;
  variables = all_none _;
  variable_limit = omega arith;
  streams = all_none _;
  stream_limit = omega arith;
  functions = all_none _;
  function_limit = omega arith;
  agents = all_none _;
  agent_limit = omega arith;
  names = λ i j name first second. absurd cc;
}

listed : AreWaysFor plan.unit ways
listed = record { nexts = by_none _; looks = by_none _; sends = by_none _; count = refl; delays = all_none _ }

fits : FitsBy plan.unit plan.code ways
fits = record {
  bare = bare;
  inits = all_none _;
  lists = listed;
  parts = record { agents = refl; each = λ agent less. absurd (omega (arith, less)) };
  runs = λ agent point start carried view less starts may is. absurd (omega (arith, less));
}

pub is_plan : IsPlan plan
is_plan = record {
  ways = ways;
  fits = fits;
  nexts = refl;
  buffers = record {
    rings = record { count = refl; each = λ variable size at. absurd cc };
    small_rings = all_none _;
    queues = record { count = refl; each = λ stream size at. absurd cc };
    small_queues = all_none _;
    outboxes = record { count = refl; each = λ agent size at. absurd cc };
  };
  supplied = record {
    graphs = [];
    drawn = record { count = refl; each = λ agent edges at. absurd cc };
    feasible = λ processor known len some within. absurd (omega (arith, some, within));
  };
}
