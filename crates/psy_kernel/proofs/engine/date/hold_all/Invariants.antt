-- What each loop of `engine::date::hold_all` keeps.
use Rattle.psy_dates.specs.Movers.{IsDoneBelow}
use Rattle.psy_kernel.specs.Starting.{held_at}
use Rattle.psy_kernel.proofs.engine.date.hold_all.Given as goal

abbrev pub invariant-each : goal.invariant-each
invariant-each l = IsDoneBelow (held_at l.queues) l.stream l.initial.helds.items l.helds.items
