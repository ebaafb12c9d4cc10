-- What each loop of `faults::all_over` keeps.
use Rattle.std.proofs.Common.{◌≡◌, true}
use Rattle.std.specs.List.{list_all, range_with_len}
use Rattle.psy_audit.specs.Befores.{StandsFor}
use Rattle.psy_audit.specs.Tables.{judge}
use Rattle.psy_audit.specs.Traces.{Lines, body}
use Rattle.psy_audit.specs.Turns.{is_over}
use Rattle.psy_audit.proofs.faults.all_over.Given as goal

abbrev pub invariant-processors : goal.invariant-processors
invariant-processors l = (lines : Lines) → StandsFor l.table.plan.now.unit lines l.before → body l.table.lines.now ≡ lines
    → list_all (is_over (judge l.table) l.table.lines.now) (range_with_len 0 l.processor) ≡ true
