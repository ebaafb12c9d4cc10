-- What each loop of `walked::passed_from` keeps.
use Rattle.std.proofs.Common.{ℕ, ◌-◌, ◌<◌, ◌≤◌, length}
use Rattle.std.specs.List.{Contains}
use Rattle.psy_judge.specs.Walked.{AreMet}
use Rattle.psy_judge.proofs.PlacesMet.{Done}
use Rattle.psy_judge.proofs.walked.passed_from.Given as goal

abbrev pub invariant-places : goal.invariant-places
invariant-places l = record {
  met : AreMet l.instrs l.starts l.marks l.places;
  begun : (start : ℕ) → Contains l.starts start → start < length l.instrs → Contains l.places start;
  done : Done l.instrs l.starts l.places l.at;
  at : l.at ≤ length l.places;
}

abbrev pub decreases-places : goal.decreases-places
decreases-places l = length l.instrs - l.at
