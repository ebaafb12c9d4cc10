-- What each loop of `walks::meet_starts` keeps.
use Rattle.std.proofs.Common.{ℕ, take}
use Rattle.std.specs.List.{Contains}
use Rattle.psy_flow.specs.Walks.{AreMet}
use Rattle.psy_flow.proofs.walks.meet_starts.Given as goal

abbrev pub invariant-starts : goal.invariant-starts
invariant-starts l = record {
  met : AreMet l.instrs l.starts l.marks l.places;
  begun : (start : ℕ) → Contains (take l.start-index l.starts) start → Contains l.places start;
}
