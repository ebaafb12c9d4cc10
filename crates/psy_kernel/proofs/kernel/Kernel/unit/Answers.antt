-- What is left of the proof of `kernel::Kernel::unit`.
use Rattle.std.proofs.Common.{◌≡◌, ap, sym, subst, ◌∙◌, arith}
use Rattle.psy_history.specs.Processors.{processors}
use Rattle.psy_kernel.specs.Engines.{history_of, ties}
use Rattle.psy_kernel.specs.Progress.{Progress, next_processor}
use Rattle.psy_kernel.specs.Units.{IsLookAt, served_at}
use Rattle.psy_kernel.specs.declared.kernel.LastUnit.{LastUnit}
use Rattle.psy_kernel.proofs.Kernels.{stands_last}
use Rattle.psy_kernel.proofs.LastUnits.{last_stands}
use Rattle.psy_kernel.proofs.Units.{just, unit_before}
use Rattle.psy_kernel.proofs.kernel.Kernel.unit.Goals as goal

pub coming-next-requires-clause-known : goal.coming-next-requires-clause-known
coming-next-requires-clause-known c = omega (arith, c.next_processor-processor.ensures.known, c.self.invariant.served, ap (λ (p : Progress). processors p.plan.unit) c.self.view_is)

pub coming-next-requires-clause-due : goal.coming-next-requires-clause-due
coming-next-requires-clause-due c =
    let k = c.self.inside in
    let next = c.next_processor-processor.ensures.next ∙ sym (ap (λ (p : Progress). next_processor p) c.self.view_is) in
    omega (arith, just k c.self.invariant c.next_processor-processor.result next, unit_before k c.self.invariant c.args.self.now c.self.view_is c.requires)

pub invariant_of-self : goal.invariant_of-self
invariant_of-self c =
    let k = c.self.inside in
    let processor = c.next_processor-processor.result in
    let next = c.next_processor-processor.ensures.next ∙ sym (ap (λ (p : Progress). next_processor p) c.self.view_is) in
    let at = just k c.self.invariant processor next in
    let last : LastUnit = record { processor = processor; cycle = k.cycles; ran = c.coming-next.result.ran; seen = c.coming-next.result.seen } in
    stands_last c.self-2.inside last c.self-2.invariant
    (last_stands k c.self-2.inside c.args.self.now c.self.view_is (c.self-2.view_is ∙ c.step.ensures.state) last
    (subst (λ n. last.ran ≡ served_at (history_of k.engine) (ties k.engine) processor n) at c.coming-next.ensures.ran)
    (subst (λ n. IsLookAt (history_of k.engine) k.engine.plan (ties k.engine) processor n last.seen) at c.coming-next.ensures.seen))
