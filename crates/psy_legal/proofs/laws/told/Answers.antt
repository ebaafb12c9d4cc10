-- What is left of the proof of `laws::told`.
use Rattle.std.proofs.Common.{subst, sym}
use Rattle.psy_audit.specs.Faults.{IsLegal}
use Rattle.psy_audit.specs.Judging.{judged_of}
use Rattle.psy_legal.proofs.laws.told.Goals as goal

pub returns : goal.returns
returns c plan inputs script is are its short few =
    subst (IsLegal (judged_of plan script)) (sym (c.read.ensures plan inputs script is are its short few)) (c.traced.ensures plan inputs script is are its)
