-- What is left of the proof of `faults::look_fault`.
use Rattle.std.proofs.Common.{◌∙◌, Bool, cond, not, Some, None, ap}
use Rattle.psy_audit.proofs.faults.look_fault.Goals as goal

pub returns : goal.returns
returns c = λ lines. c.fault_unless.ensures ∙ ap (λ (b : Bool). cond (not b) (Some 8) None) c.in_ok-seen.ensures
