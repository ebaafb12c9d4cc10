-- What is left of the proof of `faults::fault_of`.
use Rattle.std.proofs.Common.{◌∙◌, Some, ap}
use Rattle.psy_audit.proofs.faults.fault_of.Goals as goal

pub returns-in_ok-fault-in-Some : goal.returns-in_ok-fault-in-Some
returns-in_ok-fault-in-Some c = λ lines stands at.
    rw c.in-Some.is (c.in_ok-fault-in-Some.ensures lines stands (λ e before. at (c.in-Some.is ∙ ap Some e) before))
