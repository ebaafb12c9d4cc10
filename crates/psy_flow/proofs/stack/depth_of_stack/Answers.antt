-- What is left of the proof of `stack::depth_of_stack`.
use Rattle.std.proofs.Common.{ap, ◌∙◌, arith}
use Rattle.psy_lists.proofs.lemmas.Places.{there}
use Rattle.psy_meaning.specs.Depths.{Depth}
use Rattle.psy_flow.proofs.Uncapped.{agent_known}
use Rattle.psy_flow.proofs.stack.depth_of_stack.Goals as goal

pub returns-clause-depth : goal.returns-clause-depth
returns-clause-depth c a e = c.counted_depth.ensures a e ∙ (agent_known c.args.unit.now c.args.agent a c.requires.text e).counted

pub returns-clause-within : goal.returns-clause-within
returns-clause-within c =
    let unit = c.args.unit.now in
    let (a, e) = there unit.agents c.args.agent c.requires.agent in
    let known = agent_known unit c.args.agent a c.requires.text e in
    let is = c.counted_depth.ensures a e ∙ known.counted in
    (omega (arith, ap (λ (d : Depth). d.operands) is, known.below.operands), omega (arith, ap (λ (d : Depth). d.cells) is, known.below.cells))
