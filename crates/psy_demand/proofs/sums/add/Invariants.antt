-- What each loop of `sums::add` keeps.
use Rattle.std.proofs.Common.{◌≡◌, ℕ, ◌+◌, ◌<◌, ◌≤◌, length, slice_index}
use Rattle.psy_demand.proofs.sums.add.Given as goal

abbrev pub invariant-loop-at : goal.invariant-loop-at
invariant-loop-at l = record {
  count : length l.sums ≡ length l.initial.sums;
  added : (at : ℕ) → at < l.at → slice_index l.sums at ≡ slice_index l.initial.sums at + slice_index l.row at;
  rest : (at : ℕ) → l.at ≤ at → slice_index l.sums at ≡ slice_index l.initial.sums at;
}
