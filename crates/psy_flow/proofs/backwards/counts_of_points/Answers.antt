-- What is left of the proof of `backwards::counts_of_points`.
use Rattle.std.proofs.Common.{◌≡◌, ◌++◌, ℕ, List, [], ◌∷◌, reverse, ap, ◌∙◌}
use Rattle.psy_meaning.specs.Rest.{rests_of_list}
use Rattle.psy_flow.specs.Costs.{counts_then, to_point}
use Rattle.psy_flow.specs.Tops.{called}
use Rattle.psy_flow.specs.Tops.{in_step, behind, capped_tops}
use Rattle.psy_flow.proofs.CountsThen.{are_counts, turned}
use Rattle.psy_flow.proofs.backwards.counts_of_points.Goals as goal

pub returns : goal.returns
returns c =
    let g = c.args.gauge in
    let calls : ℕ → ℕ = called c.args.row.now in
    let body = c.tops_of_stmts-body.result in
    let again = c.behind-again.result in
    let others : List ℕ = counts_then g c.args.wanted calls (rests_of_list c.args.stmts.now) again in
    let is : again ≡ capped_tops g (behind (in_step g) body) = c.behind-again.ensures ∙ ap (λ n. capped_tops g (behind n body)) c.step.ensures in
    let listed : c.push.new.self.items ≡ reverse others ++ to_point body ∷ [] =
    c.in_ok-push.ensures.items ∙ ap (λ n. c.back.new.counts.items ++ n ∷ []) c.unwrap_or.ensures
    ∙ ap (λ ns. ns ++ to_point body ∷ []) (c.in_ok-back.ensures.counts ∙ ap (λ ns. ns ++ reverse others) c.new-counts.ensures.items) in
    are_counts g c.args.wanted calls c.from_vec.result c.args.stmts.now body again c.tops_of_stmts-body.ensures is
    (c.from_vec.ensures ∙ c.reverse.ensures.items ∙ turned g c.args.wanted calls c.push.new.self.items (to_point body) others listed)
