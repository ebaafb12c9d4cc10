-- What is left of the proof of `kernel::Kernel::next_line`.
use Rattle.std.proofs.Common.{◌+◌, sym, subst, inl, inr}
use Rattle.std.proofs.lemmas.Bool.{cases_Bool}
use Rattle.psy_kernel.specs.Engines.{EngineState}
use Rattle.psy_kernel.specs.Kernels.{KernelStands}
use Rattle.psy_kernel.proofs.Kernels.{stands_told}
use Rattle.psy_kernel.proofs.kernel.Kernel.next_line.Goals as goal

pub invariant_of-self : goal.invariant_of-self
invariant_of-self c =
    let k = c.self.inside in
    elim (cases_Bool c.next_line.result) [
      | inl some ↦ subst (λ (e : EngineState). KernelStands (record k { engine = e })) (sym (c.next_line.ensures.some some).1) (stands_told k (k.engine.given + 1) c.self.invariant)
      | inr none ↦ subst (λ (e : EngineState). KernelStands (record k { engine = e })) (sym (c.next_line.ensures.none none).1) c.self.invariant
    ]
