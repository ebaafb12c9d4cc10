-- What each loop of `settling::settle` keeps.
use Rattle.std.proofs.Common.{◌≡◌, length}
use Rattle.psy_flow.specs.Worths.{AreFound, AreSmall, room_of}
use Rattle.psy_flow.proofs.settling.settle.Given as goal

abbrev pub invariant-passes : goal.invariant-passes
invariant-passes l = record {
  count : length l.row ≡ length l.instrs;
  found : AreFound l.instrs l.quest l.places l.row;
  small : AreSmall l.most l.places l.row;
}

abbrev pub decreases-passes : goal.decreases-passes
decreases-passes l = room_of l.most l.row
