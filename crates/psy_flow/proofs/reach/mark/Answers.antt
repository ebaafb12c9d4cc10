-- What is left of the proof of `reach::mark`.
use Rattle.std.proofs.Common.{sym, ◌∙◌, arith}
use Rattle.psy_flow.proofs.Marks.{marked_one, marked_outside}
use Rattle.psy_flow.proofs.reach.mark.Goals as goal

pub returns-then-point-len : goal.returns-then-point-len
returns-then-point-len c = c.set.ensures ∙ sym (marked_one c.args.marks.now c.args.point)

pub returns-else-point-len : goal.returns-else-point-len
returns-else-point-len c = sym (marked_outside c.args.marks.now c.args.point (omega (arith, c.if-point-len.false, c.len.ensures)))
