-- What is left of the proof of `folded::add_arrows`.
use Rattle.psy_draw.specs.Folded.{arrows_text}
use Rattle.psy_draw.proofs.Joining.{numbered}
use Rattle.psy_draw.proofs.folded.add_arrows.Goals as goal

pub points-preserved : goal.points-preserved
points-preserved c = numbered (arrows_text c.args.agent.now c.args.nodes.now c.args.notes.now c.args.count) c.points.from c.args.out.now.items c.points.out.items c.add_arrows_from.new.out.items c.points.invariant c.in_ok-add_arrows_from.ensures
