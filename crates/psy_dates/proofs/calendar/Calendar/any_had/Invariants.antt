-- What the loop of `calendar::Calendar::any_had` keeps.
use Rattle.std.proofs.Common.{◌≡◌, ℕ, ◌<◌, false, get_or}
use Rattle.psy_history.specs.Lines.{is_date}
use Rattle.psy_tree.specs.Parts.{no_clock}
use Rattle.psy_dates.proofs.calendar.Calendar.any_had.Given as goal

abbrev pub invariant-clocks : goal.invariant-clocks
invariant-clocks l = (clock : ℕ) → clock < l.clock → is_date (get_or l.clocks clock no_clock) l.date ≡ false
