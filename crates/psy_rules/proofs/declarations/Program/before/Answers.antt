-- What is left of the proof of `declarations::Program::before`.
use Rattle.std.proofs.Common.{ap, ◌∙◌}
use Rattle.psy_tree.specs.Scope.{stands_globally}
use Rattle.psy_rules.specs.Numbering.{before_in}
use Rattle.psy_rules.proofs.Reach.{global_within, numbers_within}
use Rattle.psy_rules.proofs.declarations.Program.before.Goals as goal

pub returns : goal.returns
returns c =
    c.before_found.ensures ∙ ap (before_in c.args.self.now.before.now) (c.first.ensures ∙ c.requires.globals c.args.name.now.text)
    ∙ numbers_within c.args.self.now.items.now c.args.self.now.before.now 0 (stands_globally c.args.self.now.items.now c.args.name.now.text)
    c.requires.numbers (global_within c.args.self.now.items.now c.args.name.now.text)
