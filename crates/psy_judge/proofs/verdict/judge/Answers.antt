-- What is left of the proof of `verdict::judge`.
use Rattle.std.proofs.Common.{subst}
use Rattle.psy_flow.specs.Verified.{Keeps}
use Rattle.psy_judge.specs.Judged.{IsLeast}
use Rattle.psy_judge.proofs.Ruled.{no_fault}
use Rattle.psy_judge.proofs.WholeJudged.{least_fault_is, none_verified}
use Rattle.psy_judge.proofs.verdict.judge.Goals as goal

pub returns-clause-verified : goal.returns-clause-verified
returns-clause-verified c ok =
    none_verified c.args.unit.now c.args.code.now (subst (λ f. IsLeast (Keeps c.args.unit.now c.args.code.now) f) (c.answer.ensures.ok ok) c.in_ok-fault.ensures)

pub returns-clause-fault : goal.returns-clause-fault
returns-clause-fault c number place e =
    least_fault_is c.args.unit.now c.args.code.now (record { number = number; place = place })
    (subst (λ f. IsLeast (Keeps c.args.unit.now c.args.code.now) f) (c.answer.ensures.err number place e) c.in_ok-fault.ensures)

pub returns-clause-only : goal.returns-clause-only
returns-clause-only c verified number place e =
    no_fault c.args.unit.now c.args.code.now number place verified
    (least_fault_is c.args.unit.now c.args.code.now (record { number = number; place = place })
    (subst (λ f. IsLeast (Keeps c.args.unit.now c.args.code.now) f) (c.answer.ensures.err number place e) c.in_ok-fault.ensures)).present
