-- What the loop of `movers::any_silent` keeps.
use Rattle.std.proofs.Common.{◌≡◌, ℕ, ◌<◌, Some, slice_get}
use Rattle.std.specs.Prelude.{◌≢◌}
use Rattle.psy_dates.specs.declared.seat.Phase.TheVariants as phase
use Rattle.psy_dates.specs.declared.seat.Seat.{Seat}
use Rattle.psy_dates.proofs.movers.any_silent.Given as goal

abbrev pub invariant-agents : goal.invariant-agents
invariant-agents l = (agent : ℕ) (seat : Seat) → agent < l.agent → slice_get l.seats agent ≡ Some seat → seat.phase ≢ phase.Silent
