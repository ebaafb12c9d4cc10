-- What each loop of `agents::is_known` keeps.
use Rattle.std.proofs.Common.{◌≡◌, length}
use Rattle.psy_slip.specs.Agents.{is_known}
use Rattle.psy_slip.proofs.agents.is_known.Given as goal

abbrev pub invariant-each : goal.invariant-each
invariant-each l = is_known l.rest l.name ≡ is_known l.text l.name

abbrev pub decreases-each : goal.decreases-each
decreases-each l = length l.rest
