-- What each loop of `rounds::go_round` keeps.
use Rattle.std.proofs.Common.{◌≡◌, ◌-◌, ◌*◌, ◌^◌, ◌<◌, ◌≤◌, List, length, min}
use Rattle.psy_base.specs.declared.edge.Edge.{Edge}
use Rattle.psy_base.specs.declared.limits.TheConstants.{BUDGET}
use Rattle.psy_base.specs.Paths.{weight_of, length_of}
use Rattle.psy_rate.specs.Followed.{IsFollowed, IsLoop}
use Rattle.psy_rate.specs.Lines.{end_of}
use Rattle.psy_rate.proofs.rounds.go_round.Given as goal

abbrev pub invariant-loop-step : goal.invariant-loop-step
invariant-loop-step l = record {
  path : List Edge;
  followed : IsFollowed l.edges l.chosen l.start path;
  count : length path ≡ l.step;
  ends : end_of l.start path ≡ l.node;
  weighs : weight_of path ≡ l.weight;
  lasts : min (length_of path) (2 ^ 64 - 1) ≡ l.len;
  small : l.weight ≤ BUDGET * l.step;
  first : (other : List Edge) → IsLoop l.edges l.chosen l.start other → l.step < length other;
}
