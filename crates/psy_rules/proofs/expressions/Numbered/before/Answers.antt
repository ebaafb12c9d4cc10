-- What is left of the proof of `expressions::Numbered::before`.
use Rattle.std.proofs.Common.{length, ap, ◌∙◌}
use Rattle.psy_tree.specs.Scope.{own_slots, stands_for}
use Rattle.psy_rules.specs.Lowered.{site}
use Rattle.psy_rules.specs.Numbering.{before_in}
use Rattle.psy_rules.proofs.Reach.{stands_within, numbers_within}
use Rattle.psy_rules.proofs.expressions.Numbered.before.Goals as goal

pub returns : goal.returns
returns c =
    c.before_found.ensures ∙ ap (before_in c.args.self.now.before.now) c.find.ensures
    ∙ numbers_within c.args.self.now.scope.items.now c.args.self.now.before.now (length (own_slots (site c.args.self.now))) (stands_for (site c.args.self.now) c.args.name.now.text)
    c.requires.numbers (stands_within (site c.args.self.now) c.args.name.now.text c.requires.scope.within)
