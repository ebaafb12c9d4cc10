-- What each loop of `climbing::climb` keeps.
use Rattle.std.proofs.Common.{◌≡◌, ℕ, length}
use Rattle.psy_flow.specs.Owners.{Owner}
use Rattle.psy_judge.specs.Highest.{AreFound, AreSmall, Covers, room_of, top_at}
use Rattle.psy_judge.proofs.climbing.climb.Given as goal

abbrev pub invariant-rounds : goal.invariant-rounds
invariant-rounds l = record {
  count : length l.row ≡ length l.code.instrs;
  small : AreSmall (length l.code.instrs) l.row;
  found : (owner : Owner) → AreFound l.code owner l.fn.row → AreFound l.code owner l.row;
  kept : (place height : ℕ) → Covers (top_at l.fn.row place) height → Covers (top_at l.row place) height;
}

abbrev pub decreases-rounds : goal.decreases-rounds
decreases-rounds l = room_of (length l.code.instrs) l.row
