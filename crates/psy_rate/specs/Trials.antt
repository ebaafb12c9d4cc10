-- What is found where a number is tried as the rate of a graph.
use Rattle.std.specs.Prelude.{ℕ, ◌*◌, ◌<◌, List}
use Rattle.psy_base.specs.declared.edge.Edge.{Edge}
use Rattle.psy_base.specs.Paths.{weight_of, length_of}
use Rattle.psy_rate.specs.Lines.{IsClosed, Allows, IsIntercept}
use Rattle.psy_rate.specs.declared.line.TheConstants.{SCALE}
use Rattle.psy_rate.specs.declared.rates.Trial.{Trial}
use Rattle.psy_rate.specs.declared.rates.Trial.TheVariants.{Allowed, Passed}

-- A closed path passes each number below `next`, which is above the rate.
pub record IsPassed (graph : List Edge) (rate next : ℕ) : Type 0 where
  pub above : rate < next
  pub path : List Edge
  pub closed : IsClosed graph path
  pub passes : (less : ℕ) → less < next → less * length_of path < SCALE * weight_of path

-- The number is allowed, with this intercept, or a closed path passes each below this one.
abbrev pub IsTrial : List Edge → ℕ → Trial → Type 0
IsTrial graph rate (Allowed intercept) = Allows graph rate × IsIntercept graph rate intercept
IsTrial graph rate (Passed next) = IsPassed graph rate next
