-- What is left of the proof of `laws::listed_sizes`.
use Rattle.psy_base.specs.declared.ways.Ways.{Ways as WayLists}
use Rattle.psy_tree.specs.declared.unit.Unit.{Unit as Whole}
use Rattle.psy_meaning.specs.ListedWays.{AreWaysOf}
use Rattle.psy_meaning.specs.Units.{IsOfText}
use Rattle.psy_sizes.proofs.FromLists.{AreSame, counted_of, fault_of, sizes_listed, sizes_of}
use Rattle.psy_sizes.proofs.laws.listed_sizes.Goals as goal
use Rattle.psy_sizes.proofs.laws.listed_sizes.Goals.{After-same_sizes}

-- What the laws say of the lists
same : (c : After-same_sizes) (unit : Whole) (ways : WayLists) → IsOfText unit → AreWaysOf unit ways → AreSame unit ways
same c unit ways text are = record {
  rings = c.same_sizes.ensures.rings unit ways text are;
  queues = c.same_sizes.ensures.queues unit ways text are;
  tables = c.same_sizes.ensures.tables unit ways text are;
  outboxes = c.same_sizes.ensures.outboxes unit ways text are;
  known = λ stream (agent, window, spots, edges, less, sends, is, its, passes). c.listed.ensures.streams unit agent stream text less sends;
}

pub returns-clause-sizes : goal.returns-clause-sizes
returns-clause-sizes c unit ways sizes text are = (sizes_of unit ways (same c unit ways text are) sizes, sizes_listed unit ways (same c unit ways text are) sizes)

pub returns-clause-counted : goal.returns-clause-counted
returns-clause-counted c unit ways text are = counted_of unit ways (same c unit ways text are)

pub returns-clause-faults : goal.returns-clause-faults
returns-clause-faults c unit ways fault text are = fault_of unit ways (same c unit ways text are) fault
