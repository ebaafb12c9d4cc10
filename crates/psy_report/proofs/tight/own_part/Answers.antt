-- What is left of the proof of `tight::own_part`.
use Rattle.std.proofs.Common.{◌<◌, ◌∙◌, ap, sym, arith, get_or, length, []}
use Rattle.std.proofs.lemmas.List.{get_or_default}
use Rattle.psy_report.proofs.Own.{demand_of_other, demand_of_own}
use Rattle.psy_report.proofs.tight.own_part.Goals as goal

pub returns-then-processor_of-processor-clause-part : goal.returns-then-processor_of-processor-clause-part
returns-then-processor_of-processor-clause-part c =
    let lists = c.args.lists.now in
    let agent = c.args.agent in
    let within = c.args.within in
    let list = c.index-lists-agent.result in
    let near : agent < length lists = omega (arith, c.requires.listed.count, c.requires.known) in
    c.at.ensures ∙ ap (λ numbers. get_or numbers within 0) (c.as_slice.ensures ∙ c.index-lists-agent.is ∙ get_or_default lists agent list [] near)
    ∙ sym (demand_of_own c.args.unit.now lists c.args.processor within agent (sym c.processor_of.ensures ∙ c.if-processor_of-processor.true))

pub returns-else-processor_of-processor-clause-part : goal.returns-else-processor_of-processor-clause-part
returns-else-processor_of-processor-clause-part c =
    sym (demand_of_other c.args.unit.now c.args.lists.now c.args.processor c.args.within c.args.agent
    (λ is. c.if-processor_of-processor.false (c.processor_of.ensures ∙ is)))
