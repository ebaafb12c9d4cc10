-- What each loop of `verdict::first_wrong` keeps.
use Rattle.std.proofs.Common.{◌≡◌, ◌≤◌, ◌-◌, length, take, drop}
use Rattle.psy_audit.specs.Befores.{StandsFor}
use Rattle.psy_audit.specs.Faults.{first_behind, first_fault}
use Rattle.psy_audit.specs.Tables.{judge}
use Rattle.psy_audit.proofs.verdict.first_wrong.Given as goal

-- The lines so far have no fault, and what is kept of them stands for them.
abbrev pub invariant-lines : goal.invariant-lines
invariant-lines l = record {
  within : l.place ≤ length l.table.lines.now;
  stands : StandsFor l.table.plan.now.unit (take l.place l.table.lines.now) l.before;
  judged : first_fault (judge l.table) l.table.lines.now
      ≡ first_behind (judge l.table) l.table.lines.now (take l.place l.table.lines.now) (drop l.place l.table.lines.now);
}

abbrev pub decreases-lines : goal.decreases-lines
decreases-lines l = length l.table.lines.now - l.place
