-- What each loop of `enters::enter_all` keeps.
use Rattle.std.proofs.Common.{[], length}
use Rattle.psy_dates.specs.Plans.{system_of}
use Rattle.psy_dates.proofs.Entering.{Entered}
use Rattle.psy_dates.proofs.enters.enter_all.Given as goal

abbrev pub invariant-movers : goal.invariant-movers
invariant-movers l = Entered (system_of l.plan [] (λ agent. [])) l.date l.seats l.outboxes (length l.plan.unit.agents) l.movers l.place l.fn.queues l.queues
