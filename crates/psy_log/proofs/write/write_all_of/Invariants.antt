-- What each loop of `write::write_all_of` keeps.
use Rattle.std.proofs.Common.{◌≡◌, ◌≤◌, ◌-◌, length, take, drop}
use Rattle.psy_door.specs.Growth.{Grew}
use Rattle.psy_log.specs.Writing.{Handed}
use Rattle.psy_log.proofs.write.write_all_of.Given as goal

abbrev pub invariant-writing : goal.invariant-writing
invariant-writing g l =
    record {
      within : l.taken ≤ length l.piece;
      unfailed : g.S.Sink.faults l.out ≡ g.S.Sink.faults l.fn.out;
      grew : Grew (g.S.Sink.held l.fn.out) (g.S.Sink.held l.out) (take l.taken l.piece);
      handed : Handed g.S.Sink.calls l.fn.out l.piece (drop l.taken l.piece) l.out;
    }

-- What is left to write
abbrev pub decreases-writing : goal.decreases-writing
decreases-writing g l = length l.piece - l.taken
