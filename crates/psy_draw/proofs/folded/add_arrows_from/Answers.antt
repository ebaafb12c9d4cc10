-- What is left of the proof of `folded::add_arrows_from`.
use Rattle.std.proofs.Common.{◌≡◌, ◌++◌, List, subst}
use Rattle.psy_draw.specs.declared.node.Step.{Step}
use Rattle.psy_draw.specs.Folded.{arrow_text}
use Rattle.psy_draw.proofs.Joining.{numbered}
use Rattle.psy_draw.proofs.folded.add_arrows_from.Goals as goal

pub points-preserved : goal.points-preserved
points-preserved c =
    let P : List Step → Type 0 = λ steps. c.add_arrow.new.out.items ≡ c.points.out.items ++ arrow_text c.args.agent.now c.args.from steps c.points.to in
    numbered (arrow_text c.args.agent.now c.args.from c.in_ok-steps.steps.items) c.points.to c.args.out.now.items c.points.out.items c.add_arrow.new.out.items c.points.invariant
    (subst P c.as_slice.ensures.value c.in_ok-add_arrow.ensures)
