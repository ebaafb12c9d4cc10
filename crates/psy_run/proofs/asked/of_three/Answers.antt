-- What is left of the proof of `asked::of_three`.
use Rattle.std.proofs.Common.{[], ◌∷◌, ap, codes}
use Rattle.psy_lists.proofs.lemmas.Texts.{same_text}
use Rattle.psy_run.specs.Asked.{asks_run, asks_exec, asks_check, asks_save, asks_trial, asks_trace}
use Rattle.psy_run.proofs.AskedLemmas.{undated_three, untried}
use Rattle.psy_run.proofs.asked.of_three.Goals as goal

pub returns-then-eq : goal.returns-then-eq
returns-then-eq c =
    let command = same_text c.args.command.now (codes "run") c.if-eq.ensures in
    asks_run c.args.word.now c.args.until.now c.in_ok-until.until (ap (λ w. w ∷ c.args.word.now ∷ c.args.until.now ∷ []) command) (rw c.as_bytes.ensures.value at c.in_ok-until.ensures)

pub returns-then-eq-2 : goal.returns-then-eq-2
returns-then-eq-2 c =
    let command = same_text c.args.command.now (codes "exec") c.if-eq-2.ensures in
    asks_exec c.args.word.now c.args.until.now c.in_ok-until.until (ap (λ w. w ∷ c.args.word.now ∷ c.args.until.now ∷ []) command) (rw c.as_bytes.ensures.value at c.in_ok-until.ensures)

pub returns-then-eq-3 : goal.returns-then-eq-3
returns-then-eq-3 c =
    let command = same_text c.args.command.now (codes "check") c.if-eq-3.ensures in
    asks_check c.args.word.now c.args.until.now c.in_ok-until.until (ap (λ w. w ∷ c.args.word.now ∷ c.args.until.now ∷ []) command) (rw c.as_bytes.ensures.value at c.in_ok-until.ensures)

pub returns-then-eq-4 : goal.returns-then-eq-4
returns-then-eq-4 c =
    let command = same_text c.args.command.now (codes "trial") c.if-eq-4.ensures in
    asks_trial c.args.word.now c.args.until.now c.in_ok-seed.seed c.in_ok-until.until (ap (λ w. w ∷ c.args.word.now ∷ c.args.until.now ∷ []) command)
    (rw c.as_bytes-then-eq-4.ensures.value at c.in_ok-seed.ensures) (rw c.as_bytes.ensures.value at c.in_ok-until.ensures)

pub returns-then-eq-5 : goal.returns-then-eq-5
returns-then-eq-5 c =
    let command = same_text c.args.command.now (codes "trace") c.if-eq-5.ensures in
    asks_trace c.args.word.now c.args.until.now c.in_ok-until.until (ap (λ w. w ∷ c.args.word.now ∷ c.args.until.now ∷ []) command) (rw c.as_bytes.ensures.value at c.in_ok-until.ensures)

pub returns-then-eq-6 : goal.returns-then-eq-6
returns-then-eq-6 c =
    let command = same_text c.args.command.now (codes "save") c.if-eq-6.ensures in
    asks_save c.args.word.now c.args.until.now c.in_ok-until.until (ap (λ w. w ∷ c.args.word.now ∷ c.args.until.now ∷ []) command) (rw c.as_bytes.ensures.value at c.in_ok-until.ensures)

pub returns-in_err-until : goal.returns-in_err-until
returns-in_err-until c = rw c.from_residual.ensures (undated_three c.args.command.now c.args.word.now c.args.until.now (rw c.as_bytes.ensures.value at c.in_err-until.ensures))

pub returns-in_err-seed : goal.returns-in_err-seed
returns-in_err-seed c =
    rw c.from_residual-in_err-seed.ensures (untried c.args.command.now c.args.word.now c.args.until.now c.if-eq-4.ensures (rw c.as_bytes-then-eq-4.ensures.value at c.in_err-seed.ensures))
