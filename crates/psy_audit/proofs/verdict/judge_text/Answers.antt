-- What is left of the proof of `verdict::judge_text`.
use Rattle.std.proofs.Common.{◌≡◌, ◌∙◌, length, Some, ap, subst, arith}
use Rattle.std.specs.Prelude.{IfOk}
use Rattle.psy_audit.specs.Answers.{fault_at}
use Rattle.psy_audit.specs.Faults.{IsLegal, first_fault}
use Rattle.psy_audit.specs.Judging.{judged_of}
use Rattle.psy_audit.specs.Texts.{lines_in}
use Rattle.psy_audit.specs.Traces.{Lines, acts, looks}
use Rattle.psy_audit.specs.declared.verdict.Legal.{Legal}
use Rattle.psy_audit.proofs.Lengths.{lines_few}
use Rattle.psy_audit.proofs.verdict.judge_text.Goals as goal

pub judge_lines-requires-clause-few : goal.judge_lines-requires-clause-few
judge_lines-requires-clause-few c =
    let lines = lines_few c.args.plan.now.unit c.from.result c.args.text.now in
    omega (arith, ap length c.as_slice.ensures, ap length c.in_ok-lines.ensures, lines, c.requires.text)

pub returns-clause-legal : goal.returns-clause-legal
returns-clause-legal c =
    let plan = c.args.plan.now in
    let is = c.as_slice.ensures ∙ c.in_ok-lines.ensures ∙ ap (λ n. lines_in plan.unit n c.args.text.now) c.from.ensures in
    subst (λ (ls : Lines). IfOk c.judge_lines.result (λ legal. IsLegal (judged_of plan c.args.script.now) ls)) is c.judge_lines.ensures.legal

pub returns-clause-acts : goal.returns-clause-acts
returns-clause-acts c =
    let plan = c.args.plan.now in
    let is = c.as_slice.ensures ∙ c.in_ok-lines.ensures ∙ ap (λ n. lines_in plan.unit n c.args.text.now) c.from.ensures in
    subst (λ (ls : Lines). IfOk c.judge_lines.result (λ (legal : Legal). legal.acts ≡ length (acts ls))) is c.judge_lines.ensures.acts

pub returns-clause-looks : goal.returns-clause-looks
returns-clause-looks c =
    let plan = c.args.plan.now in
    let is = c.as_slice.ensures ∙ c.in_ok-lines.ensures ∙ ap (λ n. lines_in plan.unit n c.args.text.now) c.from.ensures in
    subst (λ (ls : Lines). IfOk c.judge_lines.result (λ (legal : Legal). legal.looks ≡ length (looks ls))) is c.judge_lines.ensures.looks

pub returns-clause-fault : goal.returns-clause-fault
returns-clause-fault c = λ number line told.
    let plan = c.args.plan.now in
    let is = c.as_slice.ensures ∙ c.in_ok-lines.ensures ∙ ap (λ n. lines_in plan.unit n c.args.text.now) c.from.ensures in
    subst (λ (ls : Lines). first_fault (judged_of plan c.args.script.now) ls ≡ Some (fault_at number line)) is (c.judge_lines.ensures.fault number line told)
