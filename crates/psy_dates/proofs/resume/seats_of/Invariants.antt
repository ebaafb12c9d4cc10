-- What each loop of `resume::seats_of` keeps.
use Rattle.std.proofs.Common.{◌≡◌, ℕ, ◌<◌, Some, length, slice_get}
use Rattle.psy_dates.specs.declared.opening.AgentOpening.{AgentOpening}
use Rattle.psy_dates.specs.Beginnings.{seat_behind}
use Rattle.psy_dates.specs.Moves.{timing_in}
use Rattle.psy_dates.proofs.resume.seats_of.Given as goal

abbrev pub invariant-agents : goal.invariant-agents
invariant-agents l = record {
  count : length l.seats.items ≡ l.agent;
  seats : (agent : ℕ) (known : AgentOpening) → agent < l.agent → slice_get l.agents agent ≡ Some known → slice_get l.seats.items agent ≡ Some (seat_behind (timing_in l.plan agent) l.date known.begun);
}
