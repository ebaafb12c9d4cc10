-- What is left of the proof of `verdict::judge_functions`.
use Rattle.std.proofs.Common.{◌≡◌, ◌+◌, length, sym, subst, arith}
use Rattle.psy_judge.specs.Judged.{IsLeast}
use Rattle.psy_judge.specs.Judging.{AreNeeds, IsDone, KeptBy}
use Rattle.psy_judge.specs.Owned.{IsReady}
use Rattle.psy_judge.proofs.OwnersJudged.{function_more, kept_none}
use Rattle.psy_judge.proofs.verdict.judge_functions.Goals as goal

pub functions-init : goal.functions-init
functions-init c = record { ready = c.requires.ready; needs = c.requires.needs; least = kept_none c.args.unit.now c.args.code.now }

pub functions-preserved : goal.functions-preserved
functions-preserved c = record {
  ready = c.in_ok-fault.ensures.ready;
  needs = c.in_ok-fault.ensures.needs;
  least =
      subst (λ f. IsLeast (KeptBy c.args.unit.now c.args.code.now (IsDone (c.functions.number + 1) 0)) f) (sym c.lesser-least.ensures)
      (function_more c.args.unit.now c.args.code.now c.functions.number c.functions.least c.in_ok-fault.fault c.functions.invariant.least c.in_ok-fault.ensures.least);
}

pub returns-clause-ready : goal.returns-clause-ready
returns-clause-ready c =
    let all : c.functions.number ≡ length c.args.code.now.functions = omega (arith, c.functions-test.false, c.functions.auto.number-end, c.len-number-end.ensures) in
    subst (λ n. IsReady c.args.code.now (IsDone n 0) c.functions.marks c.functions.taken c.functions.row) all c.functions.invariant.ready

pub returns-clause-needs : goal.returns-clause-needs
returns-clause-needs c =
    let all : c.functions.number ≡ length c.args.code.now.functions = omega (arith, c.functions-test.false, c.functions.auto.number-end, c.len-number-end.ensures) in
    subst (λ n. AreNeeds c.args.code.now n c.functions.needs) all c.functions.invariant.needs

pub returns-clause-least : goal.returns-clause-least
returns-clause-least c =
    let all : c.functions.number ≡ length c.args.code.now.functions = omega (arith, c.functions-test.false, c.functions.auto.number-end, c.len-number-end.ensures) in
    subst (λ n. IsLeast (KeptBy c.args.unit.now c.args.code.now (IsDone n 0)) c.functions.least) all c.functions.invariant.least
