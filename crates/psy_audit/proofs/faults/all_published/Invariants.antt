-- What each loop of `faults::all_published` keeps.
use Rattle.std.proofs.Common.{◌≡◌, true}
use Rattle.std.specs.List.{list_all, range_with_len}
use Rattle.psy_audit.specs.Publications.{is_published}
use Rattle.psy_audit.specs.Tables.{judge}
use Rattle.psy_audit.proofs.faults.all_published.Given as goal

abbrev pub invariant-variables : goal.invariant-variables
invariant-variables l = list_all (is_published (judge l.table) l.table.lines.now) (range_with_len 0 l.variable) ≡ true
