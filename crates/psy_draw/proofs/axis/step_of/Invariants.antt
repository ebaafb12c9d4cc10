-- What each loop of `axis::step_of` keeps.
use Rattle.std.proofs.Common.{◌≡◌, drop}
use Rattle.psy_draw.specs.declared.axis.TheConstants.{STEPS}
use Rattle.psy_draw.specs.Axes.{step_among, step_of}
use Rattle.psy_draw.proofs.axis.step_of.Given as goal

-- None of the steps so far is long enough.
abbrev pub invariant-loop-step : goal.invariant-loop-step
invariant-loop-step l = step_among (drop l.step-index STEPS) l.dates ≡ step_of l.dates
