-- What each loop of `faults::all_begun` keeps.
use Rattle.std.proofs.Common.{◌≡◌, true}
use Rattle.std.specs.List.{list_all, range_with_len}
use Rattle.psy_audit.specs.Courses.{has_begun}
use Rattle.psy_audit.specs.Tables.{judge}
use Rattle.psy_audit.proofs.faults.all_begun.Given as goal

abbrev pub invariant-agents : goal.invariant-agents
invariant-agents l = list_all (has_begun (judge l.table) l.table.lines.now) (range_with_len 0 l.agent) ≡ true
