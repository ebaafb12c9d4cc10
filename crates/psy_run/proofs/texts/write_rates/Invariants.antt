-- What each loop of `texts::write_rates` keeps.
use Rattle.std.proofs.Common.{◌≡◌, take}
use Rattle.psy_door.specs.Growth.{Grew}
use Rattle.psy_kernel.specs.Texts.{text_of}
use Rattle.psy_run.specs.Texts.{rate_lines}
use Rattle.psy_run.proofs.texts.write_rates.Given as goal

abbrev pub invariant-agents : goal.invariant-agents
invariant-agents g l =
    record {
      unfailed : g.S.Sink.faults l.out ≡ g.S.Sink.faults l.fn.out;
      grew : Grew (g.S.Sink.held l.fn.out) (g.S.Sink.held l.out) (text_of (take l.number (rate_lines l.agents l.lines)));
    }
