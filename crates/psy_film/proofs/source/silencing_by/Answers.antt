-- What is left of the proof of `source::silencing_by`.
use Rattle.std.proofs.Common.{◌∙◌, [], ap, map, sym}
use Rattle.psy_film.specs.Sources.{owning_by}
use Rattle.psy_match.specs.Silences.{stopped_in}
use Rattle.psy_film.proofs.source.silencing_by.Goals as goal

pub returns-in-None : goal.returns-in-None
returns-in-None c = c.none.ensures [] ∙ ap (λ source. map (stopped_in []) (owning_by source)) (sym c.in-None.is)
