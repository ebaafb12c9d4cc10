-- What each loop of `movers::name_all` keeps.
use Rattle.std.proofs.Common.{◌≡◌, ℕ, ◌<◌, ◌≤◌, false, Some, length, slice_get}
use Rattle.psy_dates.specs.declared.seat.Seat.{Seat}
use Rattle.psy_dates.specs.Movers.{IsBefore, NamesAll, first_in, moves_in}
use Rattle.psy_dates.proofs.movers.name_all.Given as goal

abbrev pub invariant-agents : goal.invariant-agents
invariant-agents l = record {
  size : l.moved.size ≡ l.fn.moved.size;
  few : length l.moved.agents ≤ l.agent;
  names : NamesAll (moves_in l.plan l.date l.seats) l.agent 0 l.moved.agents;
  others : (agent : ℕ) (seat : Seat) → agent < l.agent → slice_get l.seats agent ≡ Some seat → moves_in l.plan l.date l.seats agent ≡ false
      → IsBefore l.least (first_in l.plan agent) seat seat.phase;
}
