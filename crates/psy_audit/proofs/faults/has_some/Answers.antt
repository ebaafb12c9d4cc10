-- What is left of the proof of `faults::has_some`.
use Rattle.std.proofs.Common.{◌∙◌, not, ap}
use Rattle.psy_audit.proofs.Faulty.{any_some}
use Rattle.psy_audit.proofs.faults.has_some.Goals as goal

pub returns : goal.returns
returns c = ap not c.is_empty.ensures ∙ any_some c.args.acts.now
