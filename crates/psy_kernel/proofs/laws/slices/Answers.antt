-- What is left of the proof of `laws::slices`.
use Rattle.std.proofs.Common.{◌*◌}
use Rattle.psy_kernel.proofs.SliceEnds.{as_cycles, due_before, due_on, one_end, up_to}
use Rattle.psy_kernel.proofs.WholeCycles.{whole_cycle}
use Rattle.psy_kernel.proofs.laws.slices.Goals as goal

pub returns-clause-units : goal.returns-clause-units
returns-clause-units e p whole some = whole_cycle p whole some

pub returns-clause-one_end : goal.returns-clause-one_end
returns-clause-one_end e p a b x y = one_end p a b x y

pub returns-clause-cycles : goal.returns-clause-cycles
returns-clause-cycles e p end is = as_cycles p end is

pub returns-clause-due : goal.returns-clause-due
returns-clause-due e p end n is due less = due_on p end n is due less

pub returns-clause-tick : goal.returns-clause-tick
returns-clause-tick e p more = up_to p (p.dates * p.plan.unit.quantum) more

pub returns-clause-due_on : goal.returns-clause-due_on
returns-clause-due_on e p n due less = due_before p n due less
