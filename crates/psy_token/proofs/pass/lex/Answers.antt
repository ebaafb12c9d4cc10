-- What is left of the proof of `pass::lex`.
use Rattle.std.proofs.Common.{◌≡◌, ◌+◌, ◌≤◌, drop, take, length, sym, subst}
use Rattle.std.specs.Prelude.{Ok}
use Rattle.std.proofs.lemmas.List.{take_rest}
use Rattle.std.proofs.lemmas.Result.{err_from_is_err_and, IfOk-from_err}
use Rattle.psy_tree.specs.Tokens.{TokensOf}
use Rattle.psy_tree.proofs.lemmas.TokenCounts.{length-TokensOf}
use Rattle.psy_token.specs.Reading.{Whole, FaultGives, front_of, piece_by}
use Rattle.psy_token.proofs.Texts.{State, State-more, State-end, IsFirstFault-met, gives_tokens, gives_fault}
use Rattle.psy_token.proofs.pass.lex.Goals as goal

pub returns-in_err-len-clause-fault : goal.returns-in_err-len-clause-fault
returns-in_err-len-clause-fault c =
    let p = err_from_is_err_and c.from_residual.result c.from_residual.ensures.1 in
    let text = c.args.text.now in
    let at = c.loop-at.at in
    let met = subst (λ rest. FaultGives at c.in_err-len.field-0.0 (front_of rest)) (take_rest text at) c.in_err-len.ensures in
    rw (p.1, p.2) (IsFirstFault-met text at c.loop-at.tokens c.in_err-len.field-0.0 c.loop-at.invariant met)

pub returns-in_err-len-clause-all_tokens : goal.returns-in_err-len-clause-all_tokens
returns-in_err-len-clause-all_tokens c = gives_tokens c.args.text.now c.from_residual.result (IfOk-from_err c.from_residual.result (λ ts. TokensOf c.args.text.now ts) c.from_residual.ensures.0) (returns-in_err-len-clause-fault c)

pub returns-in_err-len-clause-all_faults : goal.returns-in_err-len-clause-all_faults
returns-in_err-len-clause-all_faults c = gives_fault c.args.text.now c.from_residual.result (IfOk-from_err c.from_residual.result (λ ts. TokensOf c.args.text.now ts) c.from_residual.ensures.0) (returns-in_err-len-clause-fault c)

pub loop-at-preserved : goal.loop-at-preserved
loop-at-preserved c =
    let text = c.args.text.now in
    let at = c.loop-at.at in
    let kind = c.in_ok-len.field-0.kind in
    let len = c.in_ok-len.field-0.len in
    let cut = c.in_ok-len.ensures in
    let is = subst (λ rest. front_of rest ≡ Whole (piece_by kind (take len rest))) (take_rest text at) cut.0 in
    let fits : len ≤ length (drop at text) = subst (λ rest. len ≤ length rest) (take_rest text at) cut.2 in
    subst (State text (at + len)) (sym c.in_ok-add.ensures.ok) (State-more text at c.loop-at.tokens kind len c.loop-at.invariant is fits)

pub returns-clause-all_tokens : goal.returns-clause-all_tokens
returns-clause-all_tokens c = gives_tokens c.args.text.now (Ok c.loop-at.tokens) (State-end c.args.text.now c.loop-at.at c.loop-at.tokens c.loop-at.invariant c.loop-at-test.false) tt

pub returns-clause-all_faults : goal.returns-clause-all_faults
returns-clause-all_faults c = gives_fault c.args.text.now (Ok c.loop-at.tokens) (State-end c.args.text.now c.loop-at.at c.loop-at.tokens c.loop-at.invariant c.loop-at-test.false) tt

pub returns-clause-few : goal.returns-clause-few
returns-clause-few c = length-TokensOf c.args.text.now c.loop-at.tokens (State-end c.args.text.now c.loop-at.at c.loop-at.tokens c.loop-at.invariant c.loop-at-test.false)
