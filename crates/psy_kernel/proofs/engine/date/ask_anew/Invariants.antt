-- What each loop of `engine::date::ask_anew` keeps.
use Rattle.psy_dates.specs.Movers.{IsDoneBelow}
use Rattle.psy_kernel.proofs.Asked.{asked}
use Rattle.psy_kernel.proofs.engine.date.ask_anew.Given as goal

abbrev pub invariant-each : goal.invariant-each
invariant-each l = IsDoneBelow (λ place. asked) l.processor l.initial.servers.items l.servers.items
