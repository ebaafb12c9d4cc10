-- What each loop of `walk::all_suit` keeps.
use Rattle.std.proofs.Common.{◌≡◌, ◌-◌, ℕ}
use Rattle.std.specs.List.{list_all}
use Rattle.psy_audit.specs.Rows.{suits}
use Rattle.psy_audit.specs.Tables.{judge}
use Rattle.psy_audit.specs.Turns.{between, first_at}
use Rattle.psy_audit.proofs.walk.all_suit.Given as goal

-- The cycles so far suit.
abbrev pub invariant-changes : goal.invariant-changes
invariant-changes l =
    list_all (λ (cycle : ℕ). suits l.own (first_at (judge l.table) l.table.lines.now l.processor cycle)) (between l.from l.to)
    ≡ list_all (λ (cycle : ℕ). suits l.own (first_at (judge l.table) l.table.lines.now l.processor cycle)) (between l.cycle l.to)

abbrev pub decreases-changes : goal.decreases-changes
decreases-changes l = l.to - l.cycle
