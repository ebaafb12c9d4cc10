-- What is left of the proof of `kernel::Kernel::date`.
use Rattle.std.proofs.Common.{None, sym, subst}
use Rattle.psy_kernel.specs.Engines.{EngineState}
use Rattle.psy_kernel.specs.Kernels.{KernelStands}
use Rattle.psy_kernel.proofs.AllDue.{all_due, early_in, stands_after}
use Rattle.psy_kernel.proofs.Kernels.{stands_rested}
use Rattle.psy_kernel.proofs.kernel.Kernel.date.Goals as goal

pub date-requires-clause-due : goal.date-requires-clause-due
date-requires-clause-due c = all_due c.self.inside c.self.invariant c.args.self.now c.self.view_is c.requires.due

pub date-requires-clause-early : goal.date-requires-clause-early
date-requires-clause-early c = early_in c.self.inside c.self.invariant c.args.self.now c.self.view_is c.requires.due

pub invariant_of-self : goal.invariant_of-self
invariant_of-self c =
    subst (λ (e : EngineState). KernelStands (record c.self.inside { engine = e; last = None })) (sym c.date.ensures.state)
    (stands_rested _ (stands_after c.self.inside c.self.invariant c.args.self.now c.self.view_is c.requires.due))
