-- What is left of the proof of `ends::ending`.
use Rattle.std.proofs.Common.{Bool, length, subst, ◌<◌, arith}
use Rattle.psy_judge.specs.Ending.{IsPass}
use Rattle.psy_judge.proofs.EndsFound.{all_ends, found_none}
use Rattle.psy_judge.proofs.ends.ending.Goals as goal

pub passes-init : goal.passes-init
passes-init c = found_none c.args.instrs.now c.in_ok-marks.marks c.in_ok-marks.ensures

pub passes-preserved : goal.passes-preserved
passes-preserved c = c.pass.ensures.found

pub passes-smaller : goal.passes-smaller
passes-smaller c = omega (arith, c.pass.ensures.pass.room c.if-not-pass.false, c.sweep.ensures.room)

pub returns-then-not-pass : goal.returns-then-not-pass
returns-then-not-pass c =
    all_ends c.args.instrs.now c.sweep.new.marks c.pass.new.marks c.pass.ensures.found
    (subst (λ (b : Bool). IsPass c.args.instrs.now (λ q. q < length c.args.instrs.now) c.sweep.new.marks c.pass.new.marks b) c.if-not-pass.true c.pass.ensures.pass)
