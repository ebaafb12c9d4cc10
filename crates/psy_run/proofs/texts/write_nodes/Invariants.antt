-- What each loop of `texts::write_nodes` keeps.
use Rattle.std.proofs.Common.{◌≡◌, take}
use Rattle.psy_door.specs.Growth.{Grew}
use Rattle.psy_kernel.specs.Texts.{text_of}
use Rattle.psy_run.specs.Texts.{node_lines}
use Rattle.psy_run.proofs.texts.write_nodes.Given as goal

abbrev pub invariant-nodes : goal.invariant-nodes
invariant-nodes g l =
    record {
      unfailed : g.S.Sink.faults l.out ≡ g.S.Sink.faults l.fn.out;
      grew : Grew (g.S.Sink.held l.fn.out) (g.S.Sink.held l.out) (text_of (take l.number (node_lines l.costs 0 l.nodes)));
    }
