-- What is left of the proof of `before::note_past`.
use Rattle.std.proofs.Common.{◌∙◌, List, ℕ, ap, sym}
use Rattle.std.proofs.Math.ListN.{set}
use Rattle.psy_audit.proofs.Befores.{no_past_noted, past_noted}
use Rattle.psy_audit.proofs.before.note_past.Goals as goal

pub returns-in-Some : goal.returns-in-Some
returns-in-Some c = λ n before is no.
    c.put_number.ensures ∙ ap (λ (xs : List ℕ). set xs c.in-Some.segment.processor c.in-Some.segment.past) is
    ∙ past_noted n before no c.args.line.now c.in-Some.segment (sym c.in-Some.ensures)

pub returns-in-None : goal.returns-in-None
returns-in-None c = λ n before is no. is ∙ no_past_noted n before no c.args.line.now (sym c.in-None.ensures)
