-- What is left of the proof of `ends::pass`.
use Rattle.std.proofs.Common.{◌-◌, length, arith}
use Rattle.psy_judge.proofs.EndsFound.{passed_all, passed_more, passed_none}
use Rattle.psy_judge.proofs.ends.pass.Goals as goal

pub places-init : goal.places-init
places-init c = record { found = c.requires.found; pass = passed_none c.args.instrs.now (length c.args.instrs.now) c.args.marks.now (omega arith) }

pub places-preserved : goal.places-preserved
places-preserved c = record {
  found = c.mark-more.ensures.found;
  pass =
      passed_more c.args.instrs.now (c.places.place - 1) c.places.place c.args.marks.now c.places.marks c.mark-more.new.marks c.places.more c.mark-more.result (omega (arith, c.places-test.true))
      c.places.invariant.pass c.mark-more.ensures.pass;
}

pub returns-clause-pass : goal.returns-clause-pass
returns-clause-pass c =
    passed_all c.args.instrs.now c.places.place c.args.marks.now c.places.marks c.places.more (omega (arith, c.places-test.false)) c.places.invariant.pass
