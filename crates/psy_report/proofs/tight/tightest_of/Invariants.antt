-- What each loop of `tight::tightest_of` keeps.
use Rattle.std.proofs.Common.{◌≡◌, ◌<◌, ℕ, get_or, length}
use Rattle.psy_report.specs.Tightness.{IsTightest, demand_on}
use Rattle.psy_report.proofs.tight.tightest_of.Given as goal

abbrev pub invariant-processors : goal.invariant-processors
invariant-processors l = record {
  count : length l.lengths ≡ l.processor;
  each : (processor : ℕ) → processor < l.processor → IsTightest l.unit.quantum (demand_on l.unit l.lists processor) l.top (get_or l.lengths processor 0);
}
