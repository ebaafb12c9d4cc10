-- What is left of the proof of `kernel::Kernel::ran`.
use Rattle.psy_kernel.proofs.LastUnits.{ran_none, ran_some}
use Rattle.psy_kernel.proofs.kernel.Kernel.ran.Goals as goal

pub returns-in-Some : goal.returns-in-Some
returns-in-Some c = ran_some c.self.inside c.self.invariant c.args.self.now c.self.view_is c.in-Some.last c.in-Some.is

pub returns-in-None : goal.returns-in-None
returns-in-None c = ran_none c.self.inside c.self.invariant c.args.self.now c.self.view_is c.in-None.is
