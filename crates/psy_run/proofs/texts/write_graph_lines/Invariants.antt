-- What each loop of `texts::write_graph_lines` keeps.
use Rattle.std.proofs.Common.{◌≡◌, take}
use Rattle.psy_door.specs.Growth.{Grew}
use Rattle.psy_kernel.specs.Texts.{text_of}
use Rattle.psy_run.specs.Texts.{graph_lines}
use Rattle.psy_run.proofs.texts.write_graph_lines.Given as goal

abbrev pub invariant-agents : goal.invariant-agents
invariant-agents g l =
    record {
      unfailed : g.S.Sink.faults l.out ≡ g.S.Sink.faults l.fn.out;
      grew : Grew (g.S.Sink.held l.fn.out) (g.S.Sink.held l.out) (text_of (graph_lines (take l.number l.unit.agents) (take l.number l.graphs) (take l.number l.costs)));
    }
