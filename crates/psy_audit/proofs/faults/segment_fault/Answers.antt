-- What is left of the proof of `faults::segment_fault`.
use Rattle.std.proofs.Common.{◌∙◌, Bool, cond, not, Some, None, ap}
use Rattle.psy_audit.proofs.faults.segment_fault.Goals as goal

pub returns : goal.returns
returns c = λ lines stands. c.fault_unless.ensures ∙ ap (λ (b : Bool). cond (not b) (Some 7) None) (c.is_served.ensures lines stands)
