-- What is left of the proof of `place::token_place`.
use Rattle.std.proofs.Common.{List, length, refl, sym, subst, ◌∙◌}
use Rattle.std.proofs.lemmas.Result.{err_from_is_err_and}
use Rattle.psy_tree.specs.declared.token.Token.{Token}
use Rattle.psy_where.specs.Places.{IsStart}
use Rattle.psy_where.proofs.TokenStarts.{IsStart-within, IsStart-end, not_beyond}
use Rattle.psy_where.proofs.place.token_place.Goals as goal

pub returns-in_err-tokens-clause-beyond : goal.returns-in_err-tokens-clause-beyond
returns-in_err-tokens-clause-beyond c beyond place (tokens, are, start) =
    let p = err_from_is_err_and c.from_residual.result c.from_residual.ensures.1 in
    not_beyond c.from_residual.result p.0 c.in_err-tokens.field-0.0 p.1 p.2 (c.in_err-tokens.ensures.all_tokens tokens are) beyond

pub returns-in-Some-clause-within : goal.returns-in-Some-clause-within
returns-in-Some-clause-within c =
    let text = c.args.text.now in
    let start = subst (λ (ts : List Token). IsStart ts (length text) c.args.number c.in-Some.place) c.as_slice.ensures c.in-Some.ensures.some in
    IsStart-within text c.in_ok-tokens.tokens c.args.number c.in-Some.place c.in_ok-tokens.ensures.tokens start

pub returns-clause-beyond : goal.returns-clause-beyond
returns-clause-beyond c beyond place (tokens, are, start) =
    let same = c.as_slice.ensures ∙ c.in_ok-tokens.ensures.all_tokens tokens are in
    let start_here = subst (λ (ts : List Token). IsStart ts (length c.args.text.now) c.args.number place) (sym same) start in
    IsStart-end c.as_slice.result.now (length c.args.text.now) c.args.number place start_here (c.in-None.ensures.none refl)
