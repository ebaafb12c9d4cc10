-- What is left of the proof of `names::Names::add`.
use Rattle.std.proofs.Common.{refl, ap, ◌∙◌, bytes_eq, ◌||◌}
use Rattle.std.specs.List.{list_any}
use Rattle.psy_draw.proofs.NameTables.{names_inserted}
use Rattle.psy_draw.proofs.names.Names.add.Goals as goal

pub returns : goal.returns
returns c = λ other. names_inserted (λ k. k.now) _ (λ x y. refl) c.self.inside.table.keys _ c.args.name other c.in_ok-insert.ensures.keys ∙ ap (λ names. list_any (bytes_eq other) names || bytes_eq other c.args.name.now) c.self.view_is
