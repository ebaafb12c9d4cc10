-- What is left of the proof of `help::advice_for`.
use Rattle.std.proofs.Common.{List, [], ◌++◌, Option, length, take, sym, ap, subst, ◌∙◌, arith}
use Rattle.std.proofs.lemmas.Result.{err_from_is_err_and}
use Rattle.psy_tree.specs.declared.token.Token.{Token}
use Rattle.psy_where.specs.declared.indent.Pair.{Pair}
use Rattle.psy_where.specs.Helps.{brace_help}
use Rattle.psy_where.specs.Indents.{first_pair}
use Rattle.psy_where.specs.Places.{IsStart}
use Rattle.psy_where.proofs.TokenStarts.{IsStart-end, not_beyond}
use Rattle.psy_where.proofs.help.advice_for.Goals as goal

pub returns-in_err-tokens-clause-beyond : goal.returns-in_err-tokens-clause-beyond
returns-in_err-tokens-clause-beyond c beyond place (tokens, are, start) =
    let p = err_from_is_err_and c.from_residual.result c.from_residual.ensures.1 in
    not_beyond c.from_residual.result p.0 c.in_err-tokens.field-0.0 p.1 p.2 (c.in_err-tokens.ensures.all_tokens tokens are) beyond

pub returns-then-len-at-clause-beyond : goal.returns-then-len-at-clause-beyond
returns-then-len-at-clause-beyond c beyond place (tokens, are, start) =
    let here = subst (λ (ts : List Token). IsStart ts (length c.args.text.now) c.args.at place) (sym (c.in_ok-tokens.ensures.all_tokens tokens are)) start in
    IsStart-end _ (length c.args.text.now) c.args.at place here (omega arith)

pub returns-clause-advice : goal.returns-clause-advice
returns-clause-advice c =
    let text = c.args.text.now in
    let remark = c.in_ok-remark.remark in
    let pair = c.in_ok-pair.ensures ∙ ap (λ (ts : List Token). first_pair text [] (take c.args.at ts)) c.as_slice.ensures in (
      _,
      remark.text.items,
      remark.brace,
      c.in_ok-tokens.ensures.tokens,
      omega arith,
      c.in_ok-remark.ensures,
      c.in_ok-with_braces.ensures ∙ ap (λ (p : Option Pair). remark.text.items ++ brace_help text remark.brace p) pair,
    )
