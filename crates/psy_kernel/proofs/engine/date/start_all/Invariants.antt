-- What each loop of `engine::date::start_all` keeps.
use Rattle.std.proofs.Common.{◌≡◌, length}
use Rattle.psy_dates.proofs.lemmas.Placed.{Walked}
use Rattle.psy_kernel.specs.Starting.{runner_at, seat_at, starts_at}
use Rattle.psy_kernel.proofs.ServersStarted.{AreWalked}
use Rattle.psy_kernel.proofs.engine.date.start_all.Given as goal

abbrev pub invariant-movers : goal.invariant-movers
invariant-movers l = record {
  runners : Walked (λ k. starts_at l.date (seat_at l.seats k)) (runner_at l.date l.seats l.agents) (length l.seats) l.movers l.place l.initial.runners.items l.runners.items;
  served : length l.servers.items ≡ length l.initial.servers.items;
  ready : AreWalked l.date l.agents l.seats l.movers l.place l.initial.servers.items l.servers.items;
}
