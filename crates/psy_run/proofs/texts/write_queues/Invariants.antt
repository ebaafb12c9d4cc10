-- What each loop of `texts::write_queues` keeps.
use Rattle.std.proofs.Common.{◌≡◌, take}
use Rattle.psy_door.specs.Growth.{Grew}
use Rattle.psy_kernel.specs.Texts.{text_of}
use Rattle.psy_run.specs.Texts.{queue_lines}
use Rattle.psy_run.proofs.texts.write_queues.Given as goal

abbrev pub invariant-streams : goal.invariant-streams
invariant-streams g l =
    record {
      unfailed : g.S.Sink.faults l.out ≡ g.S.Sink.faults l.fn.out;
      grew : Grew (g.S.Sink.held l.fn.out) (g.S.Sink.held l.out) (text_of (take l.number (queue_lines l.streams l.queues)));
    }
