-- What each loop of `settling::empty` keeps.
use Rattle.std.proofs.Common.{◌≡◌, ℕ, ◌<◌, length, get_or}
use Rattle.psy_flow.proofs.settling.empty.Given as goal

abbrev pub invariant-places : goal.invariant-places
invariant-places l = record {
  count : length l.row ≡ length l.instrs;
  empty : (k : ℕ) → k < l.place-index → get_or l.row (get_or l.places k 0) 0 ≡ 0;
}
