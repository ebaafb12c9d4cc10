-- What each loop of `commits::commit_all` keeps.
use Rattle.std.proofs.Common.{length}
use Rattle.psy_dates.proofs.Committing.{CommittedTo}
use Rattle.psy_dates.proofs.commits.commit_all.Given as goal

abbrev pub invariant-movers : goal.invariant-movers
invariant-movers l = CommittedTo l.plan.unit.variables l.date l.seats l.ended l.fn.committed (length l.plan.unit.agents) l.movers l.place l.committed
