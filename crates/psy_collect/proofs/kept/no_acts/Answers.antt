-- What is left of the proof of `kept::no_acts`.
use Rattle.std.proofs.Common.{◌∙◌, ℕ, ◌∷◌, [], ◌++◌, Option, None, ap, sym, map, arith}
use Rattle.std.specs.List.{range_with_len}
use Rattle.std.proofs.lemmas.List.FromFn.{map-range_with_len_more}
use Rattle.psy_audit.specs.declared.said.Act.{Act}
use Rattle.psy_collect.proofs.kept.no_acts.Goals as goal

pub agents-preserved : goal.agents-preserved
agents-preserved c =
    let f : ℕ → Option Act = λ n. None in
    c.in_ok-push.ensures.ok ∙ ap (λ xs. xs ++ c.no_act.result ∷ []) c.agents.invariant
    ∙ ap (λ x. map f (range_with_len 0 c.agents.agent) ++ x ∷ []) c.no_act.ensures ∙ sym (map-range_with_len_more f 0 c.agents.agent c.agents.agent (omega arith))
