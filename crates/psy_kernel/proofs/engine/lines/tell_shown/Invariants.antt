-- What each loop of `engine::lines::tell_shown` keeps.
use Rattle.std.proofs.Common.{◌≡◌, ℕ, ◌-◌, ◌≤◌, List, Option}
use Rattle.psy_budget.specs.declared.charge.Stall.{Stall}
use Rattle.psy_history.specs.Actions.{Opening}
use Rattle.psy_history.specs.Schedule.{Turn}
use Rattle.psy_dates.specs.Plans.{opened_of}
use Rattle.psy_kernel.specs.Standing.{told_from}
use Rattle.psy_kernel.specs.Telling.{StandsBehind}
use Rattle.psy_kernel.proofs.engine.lines.tell_shown.Given as goal

abbrev pub invariant-streams : goal.invariant-streams
invariant-streams l = record {
  past : l.places ≤ l.next;
  within : l.next ≤ l.end;
  line : l.line ≡ l.fn.line;
  told : (opening : Opening) (stalls : ℕ → List Stall) (turns : ℕ → List (Option Turn)) → StandsBehind l.plan opening stalls turns l.date l.shared
      → told_from (opened_of l.plan opening l.shared.inputs.lists stalls) l.date l.next l.behind ≡ told_from (opened_of l.plan opening l.shared.inputs.lists stalls) l.date l.fn.place l.fn.shown;
}

abbrev pub decreases-streams : goal.decreases-streams
decreases-streams l = l.end - l.next
