-- What is left of the proof of `laws::legal`.
use Rattle.psy_audit.proofs.LegalLooks.{seen}
use Rattle.psy_audit.proofs.LegalTurns.{served_first}
use Rattle.psy_audit.proofs.Sound.{in_time}
use Rattle.psy_audit.proofs.laws.legal.Goals as goal

pub returns-clause-acts : goal.returns-clause-acts
returns-clause-acts c = in_time

pub returns-clause-segments : goal.returns-clause-segments
returns-clause-segments c = λ j lines s cycle orders legal there at. served_first j lines orders legal s cycle there at

pub returns-clause-looks : goal.returns-clause-looks
returns-clause-looks c = seen
