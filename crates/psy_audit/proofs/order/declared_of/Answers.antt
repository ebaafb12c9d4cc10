-- What is left of the proof of `order::declared_of`.
use Rattle.std.proofs.Common.{◌∙◌, ◌∷◌, [], ◌++◌, ap, sym}
use Rattle.psy_lists.proofs.lemmas.Ranges.{range_more}
use Rattle.psy_audit.proofs.order.declared_of.Goals as goal

pub agents-preserved : goal.agents-preserved
agents-preserved c = c.in_ok-push.ensures.ok ∙ ap (λ xs. xs ++ c.agents.agent ∷ []) c.agents.invariant ∙ sym (range_more c.agents.agent)
