-- What is left of the proof of `names::Names::has`.
use Rattle.std.proofs.Common.{ap, sym, ◌∙◌, bytes_eq}
use Rattle.std.specs.List.{list_any}
use Rattle.psy_lists.proofs.lemmas.Searches.{list_any-map}
use Rattle.psy_draw.proofs.names.Names.has.Goals as goal

pub returns : goal.returns
returns c = c.is_some.ensures ∙ c.get_index_of.ensures.found ∙ sym (list_any-map (bytes_eq c.args.name.now) (λ k. k.now) c.self.inside.table.keys) ∙ ap (list_any (bytes_eq c.args.name.now)) c.self.view_is
