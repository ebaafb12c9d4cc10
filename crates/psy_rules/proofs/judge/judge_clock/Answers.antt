-- What is left of the proof of `judge::judge_clock`.
use Rattle.std.proofs.Common.{ap, ◌∙◌}
use Rattle.psy_tree.specs.declared.rules.RuleKind.TheVariants.{BadClock}
use Rattle.psy_rules.specs.Sites.{site_of}
use Rattle.psy_rules.specs.Judged.{judged, noted}
use Rattle.psy_rules.proofs.Twice.{fault_same}
use Rattle.psy_rules.proofs.judge.judge_clock.Goals as goal

pub returns : goal.returns
unfolding judged
returns c =
    c.note.ensures ∙ ap (λ b. noted b BadClock c.args.name.now.token c.args.least.now.fault)
    (c.is_bad_clock.ensures ∙ fault_same (site_of c.args.scope.now) c.args.scope.now.globals.now c.args.known.now c.args.item.now c.requires.scope.globals c.requires.known c.requires.own)
