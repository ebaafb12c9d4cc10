-- What is left of the proof of `kernel::Kernel::shared`.
use Rattle.psy_kernel.proofs.LastUnits.{shared_stands}
use Rattle.psy_kernel.proofs.kernel.Kernel.shared.Goals as goal

pub returns-clause-stands : goal.returns-clause-stands
returns-clause-stands c = shared_stands c.self.inside c.self.invariant c.args.self.now c.self.view_is (c.one_of_them.ensures.one c.self.inside.engine.plan.unit) c.shared.result.now c.shared.ensures.stands
