-- What each loop of `edges::least_of` keeps.
use Rattle.std.proofs.Common.{ℕ, ◌<◌, ◌≤◌, get_or}
use Rattle.std.specs.List.{Contains}
use Rattle.psy_graph.proofs.edges.least_of.Given as goal

abbrev pub invariant-numbers : goal.invariant-numbers
invariant-numbers l = record {
  one : Contains l.numbers l.least;
  most : (i : ℕ) → i < l.number-index → l.least ≤ get_or l.numbers i 0;
}
