-- What is left of the proof of `judge::judge_name`.
use Rattle.std.proofs.Common.{ap, ◌∙◌}
use Rattle.psy_tree.specs.declared.rules.RuleKind.TheVariants.{Twice}
use Rattle.psy_rules.specs.Judged.{judged, noted}
use Rattle.psy_rules.proofs.Twice.{name_twice}
use Rattle.psy_rules.proofs.judge.judge_name.Goals as goal

pub returns : goal.returns
unfolding judged
returns c =
    c.note.ensures ∙ ap (λ b. noted b Twice c.args.name.now.token c.args.least.now.fault)
    (c.is_item_twice.ensures ∙ name_twice c.args.scope.now.items.now c.args.scope.now.at c.args.name.now.text c.args.scope.now.globals.now c.args.inner.now c.requires.scope.globals c.requires.inner)
