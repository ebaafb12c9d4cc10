-- What is left of the proof of `inputs::add_line`.
use Rattle.std.proofs.Common.{sym, ◌∙◌}
use Rattle.std.proofs.lemmas.Result.{IfOk-weaker}
use Rattle.psy_script.proofs.InputFaults.{line_fault, line_says}
use Rattle.psy_script.proofs.inputs.add_line.Goals as goal

pub returns-in-Some-clause-fault : goal.returns-in-Some-clause-fault
returns-in-Some-clause-fault c =
    IfOk-weaker c.add.result _ _
    (λ fault says before old. says before old ∙ line_fault c.args.unit.now before c.args.line.now c.in-Some.said (sym c.is_skipped.ensures ∙ c.if-is_skipped.false) (sym c.in-Some.is ∙ c.in_ok-listing_in.ensures))
    c.add.ensures.fault

pub returns-in-Some-clause-added : goal.returns-in-Some-clause-added
returns-in-Some-clause-added c done before old =
    c.add.ensures.added done before c.args.line.now old (line_says c.args.unit.now before c.args.line.now c.in-Some.said (sym c.is_skipped.ensures ∙ c.if-is_skipped.false) (sym c.in-Some.is ∙ c.in_ok-listing_in.ensures))
