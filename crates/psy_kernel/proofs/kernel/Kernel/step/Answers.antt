-- What is left of the proof of `kernel::Kernel::step`.
use Rattle.std.proofs.Common.{◌+◌, refl, ap, sym, subst, ◌∙◌, arith}
use Rattle.psy_history.specs.Processors.{processors}
use Rattle.psy_kernel.specs.Kernels.{AreTurned}
use Rattle.psy_kernel.specs.Progress.{Progress, next_processor}
use Rattle.psy_kernel.proofs.Units.{IsBehindUnit, behind_given, just, one_more, stands_next, stands_on, unit_before, unit_goes, unit_over}
use Rattle.psy_kernel.proofs.kernel.Kernel.step.Goals as goal

pub give-over-requires-clause-known : goal.give-over-requires-clause-known
give-over-requires-clause-known c = omega (arith, c.next_processor-processor.ensures.known, c.self.invariant.served, ap (λ (p : Progress). processors p.plan.unit) c.self.view_is)

pub give-over-requires-clause-inside : goal.give-over-requires-clause-inside
give-over-requires-clause-inside c =
    let k = c.self.inside in
    let next = c.next_processor-processor.ensures.next ∙ sym (ap (λ (p : Progress). next_processor p) c.self.view_is) in
    omega (arith, just k c.self.invariant c.next_processor-processor.result next, unit_before k c.self.invariant c.args.self.now c.self.view_is c.requires)

pub invariant_of-self : goal.invariant_of-self
invariant_of-self c =
    let k = c.self.inside in
    let next = c.next_processor-processor.ensures.next ∙ sym (ap (λ (p : Progress). next_processor p) c.self.view_is) in
    let behind : IsBehindUnit k (record k { engine = c.give-over.new.self }) = behind_given k c.self.invariant c.next_processor-processor.result next c.give-over.new.self c.give-over.ensures.state (c.give-over.ensures.count.0, c.give-over.ensures.count.1) (record k { engine = c.give-over.new.self }) refl in
    stands_next k c.self.invariant c.args.self.now c.self.view_is c.requires (record k { engine = c.give-over.new.self }) behind (c.if-self-processors.true ∙ c.processors-processors.ensures) c.turned_by-self-inside.result
    (subst (λ rounds. AreTurned rounds c.turned_by-self-inside.result (k.cycles + 1)) c.rounds.ensures c.turned_by-self-inside.ensures.in_force)

pub invariant_of-self-else-self-processors : goal.invariant_of-self-else-self-processors
invariant_of-self-else-self-processors c =
    let k = c.self.inside in
    let next = c.next_processor-processor.ensures.next ∙ sym (ap (λ (p : Progress). next_processor p) c.self.view_is) in
    let behind : IsBehindUnit k (record k { engine = c.give-over.new.self }) = behind_given k c.self.invariant c.next_processor-processor.result next c.give-over.new.self c.give-over.ensures.state (c.give-over.ensures.count.0, c.give-over.ensures.count.1) (record k { engine = c.give-over.new.self }) refl in
    stands_on k c.self.invariant c.args.self.now c.self.view_is c.requires (record k { engine = c.give-over.new.self }) behind (λ last. c.if-self-processors.false (last ∙ sym c.processors-processors.ensures))

pub returns-then-self-processors-clause-over : goal.returns-then-self-processors-clause-over
returns-then-self-processors-clause-over c =
    let k = c.self.inside in
    let next = c.next_processor-processor.ensures.next ∙ sym (ap (λ (p : Progress). next_processor p) c.self.view_is) in
    let one = one_more k c.self.invariant c.next_processor-processor.result next c.give-over.new.self (c.give-over.ensures.count.0, c.give-over.ensures.count.1) in
    λ over. unit_over k c.args.self.now c.self.view_is c.next_processor-processor.result c.next_processor-processor.ensures.next c.give-over.new.self one (c.give-over.ensures.over over)

pub returns-then-self-processors-clause-goes : goal.returns-then-self-processors-clause-goes
returns-then-self-processors-clause-goes c =
    let k = c.self.inside in
    let next = c.next_processor-processor.ensures.next ∙ sym (ap (λ (p : Progress). next_processor p) c.self.view_is) in
    let one = one_more k c.self.invariant c.next_processor-processor.result next c.give-over.new.self (c.give-over.ensures.count.0, c.give-over.ensures.count.1) in
    λ goes. unit_goes k c.args.self.now c.self.view_is c.next_processor-processor.result c.next_processor-processor.ensures.next c.give-over.new.self one (c.give-over.ensures.goes goes)

pub returns-else-self-processors-clause-over : goal.returns-else-self-processors-clause-over
returns-else-self-processors-clause-over c =
    let k = c.self.inside in
    let next = c.next_processor-processor.ensures.next ∙ sym (ap (λ (p : Progress). next_processor p) c.self.view_is) in
    let one = one_more k c.self.invariant c.next_processor-processor.result next c.give-over.new.self (c.give-over.ensures.count.0, c.give-over.ensures.count.1) in
    λ over. unit_over k c.args.self.now c.self.view_is c.next_processor-processor.result c.next_processor-processor.ensures.next c.give-over.new.self one (c.give-over.ensures.over over)

pub returns-else-self-processors-clause-goes : goal.returns-else-self-processors-clause-goes
returns-else-self-processors-clause-goes c =
    let k = c.self.inside in
    let next = c.next_processor-processor.ensures.next ∙ sym (ap (λ (p : Progress). next_processor p) c.self.view_is) in
    let one = one_more k c.self.invariant c.next_processor-processor.result next c.give-over.new.self (c.give-over.ensures.count.0, c.give-over.ensures.count.1) in
    λ goes. unit_goes k c.args.self.now c.self.view_is c.next_processor-processor.result c.next_processor-processor.ensures.next c.give-over.new.self one (c.give-over.ensures.goes goes)
