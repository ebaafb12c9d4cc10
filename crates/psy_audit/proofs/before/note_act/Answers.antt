-- What is left of the proof of `before::note_act`.
use Rattle.std.proofs.Common.{◌∙◌, Some, ap, sym}
use Rattle.std.proofs.Math.ListN.{set}
use Rattle.psy_audit.proofs.Befores.{act_noted, no_act_noted}
use Rattle.psy_audit.proofs.before.note_act.Goals as goal

pub returns-in-Some : goal.returns-in-Some
returns-in-Some c = λ n before is no.
    c.put_act.ensures ∙ ap (λ xs. set xs c.in-Some.act.agent (Some c.in-Some.act)) is ∙ act_noted n before no c.args.line.now c.in-Some.act (sym c.in-Some.ensures)

pub returns-in-None : goal.returns-in-None
returns-in-None c = λ n before is no. is ∙ no_act_noted n before no c.args.line.now (sym c.in-None.ensures)
