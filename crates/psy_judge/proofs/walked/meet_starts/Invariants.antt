-- What each loop of `walked::meet_starts` keeps.
use Rattle.std.proofs.Common.{ℕ, take, length, ◌<◌}
use Rattle.std.specs.List.{Contains}
use Rattle.psy_judge.specs.Walked.{AreMet}
use Rattle.psy_judge.proofs.walked.meet_starts.Given as goal

abbrev pub invariant-starts : goal.invariant-starts
invariant-starts l = record {
  met : AreMet l.instrs l.starts l.marks l.places;
  begun : (start : ℕ) → Contains (take l.start-index l.starts) start → start < length l.instrs → Contains l.places start;
}
