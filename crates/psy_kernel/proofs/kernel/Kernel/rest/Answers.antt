-- What is left of the proof of `kernel::Kernel::rest`.
use Rattle.psy_kernel.proofs.Kernels.{stands_rested}
use Rattle.psy_kernel.proofs.kernel.Kernel.rest.Goals as goal

pub invariant_of-self : goal.invariant_of-self
invariant_of-self c = stands_rested c.self.inside c.self.invariant
