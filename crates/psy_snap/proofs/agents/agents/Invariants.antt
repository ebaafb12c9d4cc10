-- What the loop of `agents::agents` keeps.
use Rattle.std.proofs.Common.{◌≡◌, [], drop, length}
use Rattle.psy_snap.specs.Forms.{form_of}
use Rattle.psy_snap.specs.Reading.{agent_at, each_at}
use Rattle.psy_snap.proofs.agents.agents.Given as goal

abbrev pub invariant-agents : goal.invariant-agents
invariant-agents l = record {
  reads : each_at (agent_at l.fn.date) (drop l.number (form_of l.fn.plan l.fn.graphs).agents) l.agents l.rest ≡ each_at (agent_at l.fn.date) (form_of l.fn.plan l.fn.graphs).agents [] l.fn.bytes;
  count : length l.agents ≡ l.number;
}
