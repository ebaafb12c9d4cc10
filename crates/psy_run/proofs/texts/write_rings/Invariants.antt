-- What each loop of `texts::write_rings` keeps.
use Rattle.std.proofs.Common.{◌≡◌, take}
use Rattle.psy_door.specs.Growth.{Grew}
use Rattle.psy_kernel.specs.Texts.{text_of}
use Rattle.psy_run.specs.Texts.{ring_lines}
use Rattle.psy_run.proofs.texts.write_rings.Given as goal

abbrev pub invariant-variables : goal.invariant-variables
invariant-variables g l =
    record {
      unfailed : g.S.Sink.faults l.out ≡ g.S.Sink.faults l.fn.out;
      grew : Grew (g.S.Sink.held l.fn.out) (g.S.Sink.held l.out) (text_of (take l.number (ring_lines l.variables l.rings)));
    }
