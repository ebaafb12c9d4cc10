-- What is left of the proof of `names::Names::first`.
use Rattle.std.proofs.Common.{sym, ap, ◌∙◌}
use Rattle.psy_tree.specs.Scope.{first_named}
use Rattle.psy_rules.proofs.Tables.{first_of_pairs}
use Rattle.psy_rules.proofs.names.Names.first.Goals as goal

pub returns : goal.returns
returns c = c.copied.ensures ∙ c.get.ensures.value ∙ sym (first_of_pairs c.args.name.now c.self.inside.table.entries) ∙ ap (first_named c.args.name.now) c.self.view_is
