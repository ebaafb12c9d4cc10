-- What is left of the proof of `kernel::Kernel::leader`.
use Rattle.psy_kernel.proofs.Sliced.{leads_alone}
use Rattle.psy_kernel.proofs.kernel.Kernel.leader.Goals as goal

pub returns-clause-alone : goal.returns-clause-alone
returns-clause-alone c = leads_alone c.self.inside c.self.invariant c.args.self.now c.self.view_is c.requires c.leader.result c.leader.ensures.alone
