-- What each loop of `clears::clear_outboxes` keeps.
use Rattle.std.proofs.Common.{[], if◌then◌else◌, length}
use Rattle.psy_dates.specs.Movers.{ends_in}
use Rattle.psy_dates.specs.Outboxes.{Outboxed}
use Rattle.psy_dates.proofs.lemmas.Placed.{Walked}
use Rattle.psy_dates.proofs.clears.clear_outboxes.Given as goal

abbrev pub invariant-movers : goal.invariant-movers
invariant-movers l =
    let cleared : _ → Outboxed → Outboxed = λ agent outbox. if ends_in l.date l.seats agent then record outbox { sends = [] } else outbox in
    Walked (ends_in l.date l.seats) cleared (length l.fn.outboxes) l.movers l.place l.fn.outboxes l.outboxes
