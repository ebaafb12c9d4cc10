-- What is left of the proof of `faults::end_fault`.
use Rattle.std.proofs.Common.{◌∙◌, Bool, cond, not, length, Option, Some, None, ℕ, ap}
use Rattle.std.specs.List.{list_all, range_with_len}
use Rattle.psy_audit.specs.Courses.{has_begun}
use Rattle.psy_audit.specs.Publications.{is_published}
use Rattle.psy_audit.specs.Tables.{judge}
use Rattle.psy_audit.proofs.faults.end_fault.Goals as goal

pub returns : goal.returns
returns c = λ lines stands body.
    let t = c.args.table.now in
    let j = judge t in
    let fault : Bool → Bool → Bool → Option ℕ = λ begun published over. cond (not begun) (Some 4) (cond (not published) (Some 6) (cond (not over) (Some 7) None)) in
    let begun = list_all (has_begun j t.lines.now) (range_with_len 0 (length t.plan.now.unit.agents)) in
    let published = list_all (is_published j t.lines.now) (range_with_len 0 (length t.plan.now.unit.variables)) in
    c.missing.ensures ∙ ap (λ b. fault b c.all_published-published.result c.all_over-over.result) c.all_begun-begun.ensures
    ∙ ap (λ b. fault begun b c.all_over-over.result) c.all_published-published.ensures ∙ ap (fault begun published) (c.all_over-over.ensures lines stands body)
