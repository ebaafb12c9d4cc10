-- What is left of the proof of `extent::lines_on`.
use Rattle.std.proofs.Common.{◌≡◌, ◌∙◌, sym, ℕ, ◌==◌, ◌++◌, [], ◌∷◌, get_or, if◌then◌else◌, arith}
use Rattle.std.proofs.lemmas.List.FromFn.{map-range_with_len_more}
use Rattle.psy_rate.specs.declared.line.Rate.{Rate}
use Rattle.psy_rate.specs.Lines.{no_line}
use Rattle.psy_plan.proofs.extent.lines_on.Goals as goal

pub agents-preserved : goal.agents-preserved
agents-preserved c =
    let agent = c.agents.agent in
    let on : ℕ → Rate = λ agent'. if get_or c.args.homes.now agent' 0 == c.args.processor then get_or c.args.lines.now agent' no_line else no_line in
    let here : c.line_on-line.result ≡ on agent = c.line_on-line.ensures ∙ (λ i. if get_or (c.as_slice-known.ensures i) agent 0 == c.args.processor then get_or (c.as_slice-all.ensures i) agent no_line else no_line) in
    record { list = c.in_ok-push.ensures ∙ (λ i. c.agents.invariant.list i ++ here i ∷ []) ∙ sym (map-range_with_len_more on 0 agent agent (omega arith)) }
