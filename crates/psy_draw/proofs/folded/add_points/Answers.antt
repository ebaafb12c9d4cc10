-- What is left of the proof of `folded::add_points`.
use Rattle.std.proofs.Common.{◌≡◌, ◌++◌, ◌∙◌, [], List, ℕ, get_or, subst}
use Rattle.psy_draw.specs.declared.node.Node.{Node}
use Rattle.psy_draw.specs.Folded.{box_of, point_text}
use Rattle.psy_draw.proofs.Joining.{numbered}
use Rattle.psy_draw.proofs.folded.add_points.Goals as goal

pub points-preserved : goal.points-preserved
points-preserved c =
    let agent = c.args.agent.now in
    let lines = c.args.lines.now in
    let P : List ℕ → List Node → Type 0 = λ line nodes. c.add_box_of.new.out.items ≡ c.points.out.items ++ box_of agent c.points.point line nodes in
    numbered (point_text agent lines c.args.nodes.now) c.points.point c.args.out.now.items c.points.out.items c.add_box_of.new.out.items c.points.invariant
    (subst (P (get_or lines c.points.point [])) (c.as_slice.ensures.value ∙ c.in_ok-nodes.ensures)
    (subst (λ line. P line c.as_slice.result.now) c.line_of.ensures c.in_ok-add_box_of.ensures))
