-- What is left of the proof of `laws::same_sizes`.
use Rattle.std.proofs.Common.{ℕ, ◌<◌, length}
use Rattle.std.proofs.lemmas.Option.{slice_get-get_or}
use Rattle.psy_base.specs.declared.ways.Ways.{Ways as WayLists}
use Rattle.psy_tree.specs.declared.unit.Unit.{Unit as Whole}
use Rattle.psy_tree.specs.Parts.{agent_at, no_agent}
use Rattle.psy_meaning.specs.KnownWays.{Listed, OfText}
use Rattle.psy_meaning.specs.ListedWays.{AreWaysOf}
use Rattle.psy_meaning.specs.Units.{IsOfText}
use Rattle.psy_flow.specs.Agents.{IsKnown}
use Rattle.psy_flow.specs.Readings.{AreAlike}
use Rattle.psy_flow.proofs.SameSizes.{alike_back, outbox_alike, queue_alike, ring_alike, table_alike}
use Rattle.psy_flow.proofs.laws.same_sizes.Goals as goal
use Rattle.psy_flow.proofs.laws.same_sizes.Goals.{After-listed}

known : (c : After-listed) (unit : Whole) → IsOfText unit → (agent : ℕ) → agent < length unit.agents → IsKnown unit agent (agent_at unit agent)
known c unit text agent less = c.known.ensures unit agent (agent_at unit agent) (text, slice_get-get_or unit.agents agent no_agent less)

there : (c : After-listed) (unit : Whole) (ways : WayLists) → IsOfText unit → AreWaysOf unit ways → AreAlike unit (Listed ways) (OfText unit)
there c unit ways = c.listed.ensures.alike unit ways

back : (c : After-listed) (unit : Whole) (ways : WayLists) → IsOfText unit → AreWaysOf unit ways → AreAlike unit (OfText unit) (Listed ways)
back c unit ways text are = alike_back unit (Listed ways) (OfText unit) (there c unit ways text are)

pub returns-clause-rings : goal.returns-clause-rings
returns-clause-rings c unit ways text are variable size = (
  ring_alike unit ways.nexts are.nexts (known c unit text) (Listed ways) (OfText unit) (there c unit ways text are) variable size,
  ring_alike unit ways.nexts are.nexts (known c unit text) (OfText unit) (Listed ways) (back c unit ways text are) variable size,
)

pub returns-clause-queues : goal.returns-clause-queues
returns-clause-queues c unit ways text are stream size less = (
  queue_alike unit ways.nexts are.nexts (known c unit text) (Listed ways) (OfText unit) (there c unit ways text are) stream size less,
  queue_alike unit ways.nexts are.nexts (known c unit text) (OfText unit) (Listed ways) (back c unit ways text are) stream size less,
)

pub returns-clause-tables : goal.returns-clause-tables
returns-clause-tables c unit ways text are stream less = (
  table_alike unit ways.nexts are.nexts (known c unit text) (Listed ways) (OfText unit) (there c unit ways text are) stream less,
  table_alike unit ways.nexts are.nexts (known c unit text) (OfText unit) (Listed ways) (back c unit ways text are) stream less,
)

pub returns-clause-outboxes : goal.returns-clause-outboxes
returns-clause-outboxes c unit ways text are agent size less = (
  outbox_alike unit ways.nexts are.nexts (known c unit text) (Listed ways) (OfText unit) (there c unit ways text are) agent size less,
  outbox_alike unit ways.nexts are.nexts (known c unit text) (OfText unit) (Listed ways) (back c unit ways text are) agent size less,
)
