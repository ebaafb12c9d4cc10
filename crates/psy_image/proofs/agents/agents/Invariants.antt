-- What the loop of `agents::agents` keeps.
use Rattle.std.proofs.Common.{◌≡◌, ◌-◌, ◌≤◌, length}
use Rattle.psy_image.specs.Formats.{times}
use Rattle.psy_image.specs.Images.{agent, agents}
use Rattle.psy_image.specs.Reading.{read}
use Rattle.psy_image.proofs.agents.agents.Given as goal

abbrev pub invariant-agents : goal.invariant-agents
invariant-agents l = record {
  reads : read (times (l.count - l.counter) (agent l.clocks l.variables) l.lists) l.rest ≡ read (agents l.clocks l.variables l.fn.seen) l.bytes;
  few : length l.lists.agents ≤ l.counter;
}
