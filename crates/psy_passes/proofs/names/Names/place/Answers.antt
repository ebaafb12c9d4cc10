-- What is left of the proof of `names::Names::place`.
use Rattle.std.proofs.Common.{bytes_eq, sym, ap, ◌∙◌}
use Rattle.std.specs.List.{list_any, position}
use Rattle.psy_lists.proofs.lemmas.Searches.{list_any-map, position-map}
use Rattle.psy_passes.proofs.names.Names.place.Goals as goal

pub returns-clause-place : goal.returns-clause-place
returns-clause-place c =
    c.get_index_of.ensures.index ∙ sym (position-map (bytes_eq c.args.name.now) (λ k. k.now) c.self.inside.table.keys)
    ∙ ap (position (bytes_eq c.args.name.now)) c.self.view_is

pub returns-clause-found : goal.returns-clause-found
returns-clause-found c =
    c.get_index_of.ensures.found ∙ sym (list_any-map (bytes_eq c.args.name.now) (λ k. k.now) c.self.inside.table.keys)
    ∙ ap (list_any (bytes_eq c.args.name.now)) c.self.view_is
