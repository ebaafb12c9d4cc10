-- What is left of the proof of `tables::rows::publications_by_variable`.
use Rattle.std.proofs.Common.{◌∙◌, ◌==◌, ℕ, ◌∷◌, [], ◌++◌, ap, sym, map, arith}
use Rattle.std.specs.Prelude.{filter}
use Rattle.std.specs.List.{range_with_len}
use Rattle.std.proofs.lemmas.List.FromFn.{map-range_with_len_more}
use Rattle.psy_audit.specs.declared.said.Publication.{Publication}
use Rattle.psy_audit.proofs.tables.rows.publications_by_variable.Goals as goal

pub variables-preserved : goal.variables-preserved
variables-preserved c =
    let f = λ (n : ℕ). filter (λ (p : Publication). p.variable == n) c.args.publications.now in
    c.in_ok-push.ensures.ok ∙ ap (λ xs. xs ++ c.in_ok-publications_of.field-0 ∷ []) c.variables.invariant
    ∙ ap (λ x. map f (range_with_len 0 c.variables.variable) ++ x ∷ []) c.in_ok-publications_of.ensures
    ∙ sym (map-range_with_len_more f 0 c.variables.variable c.variables.variable (omega arith))
