-- What is left of the proof of `declarations::functions`.
use Rattle.std.proofs.Common.{◌++◌, sym, ap, ◌∙◌, append-nil}
use Rattle.std.specs.Prelude.{option_to_list}
use Rattle.psy_tree.specs.Stands as stands
use Rattle.psy_rules.proofs.Counting.{each_from-step}
use Rattle.psy_rules.proofs.declarations.functions.Goals.{in-Some+in_ok-push, in_default}
use Rattle.psy_rules.proofs.declarations.functions.Goals as goal

pub loop-at-preserved : goal.loop-at-preserved
loop-at-preserved c =
    each_from-step (stands.functions c.args.program.now.items.now) c.args.program.now.items.now c.loop-at.at c.item-item.result c.in_ok-function.field-0 c.loop-at.functions c.match-branch-2.functions
    c.loop-at-test.true (sym c.item-item.is) c.loop-at.invariant c.in_ok-function.ensures
    (elim c.match-branch-2.branch [
      | in-Some+in_ok-push w ↦ w.functions-is ∙ w.in_ok-push.ensures.ok ∙ ap (λ o. c.loop-at.functions ++ option_to_list o) (sym w.in-Some.is)
      | in_default w ↦ w.functions-is ∙ sym (append-nil c.loop-at.functions) ∙ ap (λ o. c.loop-at.functions ++ option_to_list o) (sym w.in_default.is)
    ])
