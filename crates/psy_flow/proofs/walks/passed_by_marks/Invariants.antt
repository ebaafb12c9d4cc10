-- What each loop of `walks::passed_by_marks` keeps.
use Rattle.std.proofs.Common.{ℕ, ◌-◌, ◌≤◌, length}
use Rattle.std.specs.List.{Contains}
use Rattle.psy_flow.specs.Walks.{AreMet}
use Rattle.psy_flow.proofs.WalksMet.{Done}
use Rattle.psy_flow.proofs.walks.passed_by_marks.Given as goal

abbrev pub invariant-places : goal.invariant-places
invariant-places l = record {
  met : AreMet l.instrs l.starts l.marks l.places;
  begun : (start : ℕ) → Contains l.starts start → Contains l.places start;
  done : Done l.instrs l.starts l.places l.at;
  at : l.at ≤ length l.places;
}

abbrev pub decreases-places : goal.decreases-places
decreases-places l = length l.instrs - l.at
