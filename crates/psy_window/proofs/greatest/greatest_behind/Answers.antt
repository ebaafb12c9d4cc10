-- What is left of the proof of `greatest::greatest_behind`.
use Rattle.psy_base.specs.declared.edge.Edge.{Edge}
use Rattle.psy_window.specs.Table.{behind}
use Rattle.psy_window.proofs.Tops.{top_more}
use Rattle.psy_window.proofs.greatest.greatest_behind.Goals as goal

pub loop-edge-preserved : goal.loop-edge-preserved
loop-edge-preserved c = top_more Edge (behind c.args.row.now) c.args.edges.now c.loop-edge.edge-index c.loop-edge.greatest c.max-greatest.result (record { from = 0; to = 0; len = 0; due = 0; weight = 0 }) c.loop-edge-test.true c.max-greatest.ensures c.loop-edge.invariant
