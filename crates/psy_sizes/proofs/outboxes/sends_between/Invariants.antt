-- What each loop of `outboxes::sends_between` keeps.
use Rattle.std.proofs.Common.{◌*◌, ◌≤◌}
use Rattle.psy_base.specs.declared.limits.TheConstants.{SENDS}
use Rattle.psy_meaning.specs.KnownWays.{Listed}
use Rattle.psy_meaning.specs.QueueSizes.{AreSendsBelow}
use Rattle.psy_sizes.proofs.outboxes.sends_between.Given as goal

abbrev pub invariant-streams : goal.invariant-streams
invariant-streams l = record {
  sums : AreSendsBelow (Listed l.ways) l.agent l.from l.to l.stream l.sum;
  small : l.sum ≤ l.stream * SENDS;
}
