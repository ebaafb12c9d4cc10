-- What is left of the proof of `asked::of_five`.
use Rattle.std.proofs.Common.{[], ◌∷◌, ap, codes}
use Rattle.psy_lists.proofs.lemmas.Texts.{same_text}
use Rattle.psy_run.specs.Asked.{asks_audit_with_script, asks_exec_with_script, asks_run_with_script, asks_save_with_script, asks_trace_with_script}
use Rattle.psy_run.proofs.AskedLemmas.{resume_five, undated_five}
use Rattle.psy_run.proofs.asked.of_five.Goals as goal

pub returns-then-eq : goal.returns-then-eq
returns-then-eq c = resume_five c.args.command.now c.args.program.now c.args.until.now c.args.inputs.now c.if-eq.ensures c.to_resume.result c.args.script.now c.to_resume.ensures

pub returns-then-eq-2 : goal.returns-then-eq-2
returns-then-eq-2 c =
    let command = same_text c.args.command.now (codes "run") c.if-eq-2.ensures in
    asks_run_with_script c.args.program.now c.args.until.now c.args.inputs.now c.args.script.now c.in_ok-until.until
    (ap (λ w. w ∷ c.args.program.now ∷ c.args.until.now ∷ c.args.inputs.now ∷ c.args.script.now ∷ []) command) (rw c.as_bytes.ensures.value at c.in_ok-until.ensures)

pub returns-then-eq-3 : goal.returns-then-eq-3
returns-then-eq-3 c =
    let command = same_text c.args.command.now (codes "exec") c.if-eq-3.ensures in
    asks_exec_with_script c.args.program.now c.args.until.now c.args.inputs.now c.args.script.now c.in_ok-until.until
    (ap (λ w. w ∷ c.args.program.now ∷ c.args.until.now ∷ c.args.inputs.now ∷ c.args.script.now ∷ []) command) (rw c.as_bytes.ensures.value at c.in_ok-until.ensures)

pub returns-then-eq-4 : goal.returns-then-eq-4
returns-then-eq-4 c =
    let command = same_text c.args.command.now (codes "audit") c.if-eq-4.ensures in
    asks_audit_with_script c.args.program.now c.args.until.now c.args.inputs.now c.args.script.now c.in_ok-until.until
    (ap (λ w. w ∷ c.args.program.now ∷ c.args.until.now ∷ c.args.inputs.now ∷ c.args.script.now ∷ []) command) (rw c.as_bytes.ensures.value at c.in_ok-until.ensures)

pub returns-then-eq-5 : goal.returns-then-eq-5
returns-then-eq-5 c =
    let command = same_text c.args.command.now (codes "trace") c.if-eq-5.ensures in
    asks_trace_with_script c.args.program.now c.args.until.now c.args.inputs.now c.args.script.now c.in_ok-until.until
    (ap (λ w. w ∷ c.args.program.now ∷ c.args.until.now ∷ c.args.inputs.now ∷ c.args.script.now ∷ []) command) (rw c.as_bytes.ensures.value at c.in_ok-until.ensures)

pub returns-then-eq-6 : goal.returns-then-eq-6
returns-then-eq-6 c =
    let command = same_text c.args.command.now (codes "save") c.if-eq-6.ensures in
    asks_save_with_script c.args.program.now c.args.until.now c.args.inputs.now c.args.script.now c.in_ok-until.until
    (ap (λ w. w ∷ c.args.program.now ∷ c.args.until.now ∷ c.args.inputs.now ∷ c.args.script.now ∷ []) command) (rw c.as_bytes.ensures.value at c.in_ok-until.ensures)

pub returns-in_err-until : goal.returns-in_err-until
returns-in_err-until c =
    rw c.from_residual.ensures (undated_five c.args.command.now c.args.program.now c.args.until.now c.args.inputs.now c.args.script.now c.if-eq.ensures (rw c.as_bytes.ensures.value at c.in_err-until.ensures))
