-- What is left of the proof of `filming::filmed`.
use Rattle.psy_view.proofs.FilmingLemmas.{alone_told}
use Rattle.psy_view.proofs.PlanLemmas.{shown_as}
use Rattle.psy_view.proofs.filming.filmed.Goals as goal

pub returns-clause-told : goal.returns-clause-told
returns-clause-told g c = shown_as _ _ c.film_by.result c.film_by.ensures.film (alone_told _ _ _ _ _ _ _)
