-- What is left of the proof of `filming::film_by`.
use Rattle.std.proofs.Common.{refl}
use Rattle.std.specs.Prelude.{string_bytes}
use Rattle.psy_view.specs.Filming.{film_drawn}
use Rattle.psy_view.proofs.FilmingLemmas.{filmed_by, within_by, written_by}
use Rattle.psy_view.proofs.PlanLemmas.{shown_as}
use Rattle.psy_view.proofs.filming.film_by.Goals as goal

pub said_of-requires-clause-place : goal.said_of-requires-clause-place
said_of-requires-clause-place g c =
    within_by _ _ _ _ _ _ _ string_bytes c.args.selection.names.now c.in-Err.fault refl c.in-Err.ensures.cause

pub said_of-requires-clause-written : goal.said_of-requires-clause-written
said_of-requires-clause-written g c = written_by _ _ _ _ _ _ _ c.in-Err.fault c.in-Err.ensures.cause

pub returns-in-Ok-clause-film : goal.returns-in-Ok-clause-film
returns-in-Ok-clause-film g c = film_drawn _ c.in-Ok.ensures.picture

pub returns-in-Err-clause-film : goal.returns-in-Err-clause-film
returns-in-Err-clause-film g c =
    shown_as _ _ c.said_of.result c.said_of.ensures (filmed_by _ _ _ _ _ _ _ _ c.in-Err.fault c.in-Err.ensures.cause)
