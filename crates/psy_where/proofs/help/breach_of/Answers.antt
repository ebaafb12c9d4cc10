-- What is left of the proof of `help::breach_of`.
use Rattle.std.proofs.Common.{List, length, sym, subst, arith}
use Rattle.std.proofs.lemmas.Result.{err_from_is_err_and}
use Rattle.psy_tree.specs.declared.token.Token.{Token}
use Rattle.psy_where.specs.Places.{IsStart}
use Rattle.psy_where.proofs.TokenStarts.{IsStart-end, not_beyond}
use Rattle.psy_where.proofs.help.breach_of.Goals as goal

pub returns-in_err-tokens-clause-beyond : goal.returns-in_err-tokens-clause-beyond
returns-in_err-tokens-clause-beyond c beyond place (tokens, are, start) =
    let p = err_from_is_err_and c.from_residual.result c.from_residual.ensures.1 in
    not_beyond c.from_residual.result p.0 c.in_err-tokens.field-0.0 p.1 p.2 (c.in_err-tokens.ensures.all_tokens tokens are) beyond

pub returns-then-len-at-clause-beyond : goal.returns-then-len-at-clause-beyond
returns-then-len-at-clause-beyond c beyond place (tokens, are, start) =
    let here = subst (λ (ts : List Token). IsStart ts (length c.args.text.now) c.args.at place) (sym (c.in_ok-tokens.ensures.all_tokens tokens are)) start in
    IsStart-end _ (length c.args.text.now) c.args.at place here (omega arith)
