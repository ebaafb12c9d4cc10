-- What is left of the proof of `layout::longest`.
use Rattle.std.proofs.Common.{◌≡◌, ◌∙◌, ℕ, ap, max, min, get_or}
use Rattle.psy_base.specs.declared.edge.Edge.{Edge}
use Rattle.psy_window.proofs.Tops.{top_more}
use Rattle.psy_window.proofs.layout.longest.Goals as goal

pub loop-edge-preserved : goal.loop-edge-preserved
loop-edge-preserved c =
    let none : Edge = record { from = 0; to = 0; len = 0; due = 0; weight = 0 } in
    let length : Edge → ℕ = λ e. min e.len c.args.top in
    let is : c.max-longest.result ≡ max c.loop-edge.longest (length (get_or c.args.edges.now c.loop-edge.edge-index none)) =
    c.max-longest.ensures ∙ ap (max c.loop-edge.longest) (c.min.ensures ∙ ap (min (get_or c.args.edges.now c.loop-edge.edge-index none).len) c.from.ensures) in
    top_more Edge length c.args.edges.now c.loop-edge.edge-index c.loop-edge.longest c.max-longest.result none c.loop-edge-test.true is c.loop-edge.invariant
