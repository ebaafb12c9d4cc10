-- What each loop of `moves::move_all` keeps.
use Rattle.std.proofs.Common.{length}
use Rattle.psy_dates.specs.Movers.{moves_in}
use Rattle.psy_dates.specs.Moves.{seat_then, timing_in}
use Rattle.psy_dates.proofs.lemmas.Placed.{Walked}
use Rattle.psy_dates.proofs.moves.move_all.Given as goal

abbrev pub invariant-movers : goal.invariant-movers
invariant-movers l = Walked (moves_in l.plan l.date l.fn.seats) (λ agent. seat_then (timing_in l.plan agent) l.date) (length l.fn.seats) l.movers l.place l.fn.seats l.seats
