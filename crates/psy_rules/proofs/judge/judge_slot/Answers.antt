-- What is left of the proof of `judge::judge_slot`.
use Rattle.std.proofs.Common.{ap, refl, ◌∙◌}
use Rattle.psy_tree.specs.declared.rules.RuleKind.TheVariants.{Twice}
use Rattle.psy_rules.specs.Sites.{site_of}
use Rattle.psy_rules.specs.Judged.{judged, noted}
use Rattle.psy_rules.proofs.Twice.{slot_twice}
use Rattle.psy_rules.proofs.judge.judge_slot.Goals as goal

pub returns : goal.returns
unfolding judged
returns c =
    c.note.ensures ∙ ap (λ b. noted b Twice c.args.name.now.token c.args.least.now.fault)
    (c.is_slot_twice.ensures ∙ slot_twice (site_of c.args.scope.now) c.args.k c.args.name.now.text _ _ refl (c.requires.scope.slots c.args.name.now.text))
