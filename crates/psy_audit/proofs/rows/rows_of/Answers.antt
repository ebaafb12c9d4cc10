-- What is left of the proof of `rows::rows_of`.
use Rattle.std.proofs.Common.{◌∙◌, ◌∷◌, [], ◌++◌, ap, sym, map, arith}
use Rattle.std.specs.List.{range_with_len}
use Rattle.std.proofs.lemmas.List.FromFn.{map-range_with_len_more}
use Rattle.psy_audit.specs.Judging.{untied}
use Rattle.psy_audit.specs.Rows.{row_in}
use Rattle.psy_audit.proofs.rows.rows_of.Goals as goal

pub agents-preserved : goal.agents-preserved
agents-preserved c = λ all acts segments.
    let f = row_in (untied c.args.plan.now) all in
    c.in_ok-push.ensures.ok ∙ ap (λ xs. xs ++ c.in_ok-row_of.field-0 ∷ []) (c.agents.invariant all acts segments)
    ∙ ap (λ x. map f (range_with_len 0 c.agents.agent) ++ x ∷ []) (c.in_ok-row_of.ensures all acts segments)
    ∙ sym (map-range_with_len_more f 0 c.agents.agent c.agents.agent (omega arith))
