-- What is left of the proof of `kernel::Kernel::seen`.
use Rattle.psy_kernel.proofs.LastUnits.{seen_none, seen_some}
use Rattle.psy_kernel.proofs.kernel.Kernel.seen.Goals as goal

pub returns-in-Some : goal.returns-in-Some
returns-in-Some c = seen_some c.self.inside c.self.invariant c.args.self.now c.self.view_is c.in-Some.last c.in-Some.is

pub returns-in-None : goal.returns-in-None
returns-in-None c = seen_none c.self.inside c.self.invariant c.args.self.now c.self.view_is c.in-None.is
