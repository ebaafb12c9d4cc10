-- What each loop of `first::first_in` keeps.
use Rattle.std.proofs.Common.{◌≡◌, take}
use Rattle.psy_audit.specs.Rows.{first_in}
use Rattle.psy_audit.proofs.first.first_in.Given as goal

-- The first of those of the agents so far
abbrev pub invariant-agents : goal.invariant-agents
invariant-agents l = l.first ≡ first_in l.plan.unit l.rows l.processor l.cycle (take l.agent-index l.order)
