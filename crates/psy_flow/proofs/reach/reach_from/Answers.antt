-- What is left of the proof of `reach::reach_from`.
use Rattle.std.proofs.Common.{◌<◌, ◌∙◌, arith}
use Rattle.psy_flow.proofs.ReachRests.{from_head, from_on, from_stop}
use Rattle.psy_flow.proofs.reach.reach_from.Goals as goal

pub returns-then-point-eq0 : goal.returns-then-point-eq0
returns-then-point-eq0 c = c.reach_stmts.ensures.marks ∙ from_head c.args.stmts.now c.args.point c.args.marks.now c.if-point-eq0.true

pub returns-in-Found-true : goal.returns-in-Found-true
returns-in-Found-true c =
    let some : 0 < c.args.point = omega (arith, c.if-point-eq0.false) in
    from_on c.args.stmts.now c.args.point c.args.marks.now c.reach_behind.new.marks c.reach_stmts-in-Found-true.new.marks c.in-Found-true.field-0 some c.in-Found-true.ensures c.in-Found-true.field-0-test
    c.reach_stmts-in-Found-true.ensures.marks

pub returns-in-Found-false : goal.returns-in-Found-false
returns-in-Found-false c =
    let some : 0 < c.args.point = omega (arith, c.if-point-eq0.false) in
    from_stop c.args.stmts.now c.args.point c.args.marks.now c.reach_behind.new.marks c.in-Found-false.field-0 some c.in-Found-false.ensures c.in-Found-false.field-0-test

pub returns-in-Further : goal.returns-in-Further
returns-in-Further c = absurd (omega (arith, c.requires, c.in-Further.ensures.0, c.if-point-eq0.false))
