-- What is left of the proof of `filming::mismatch`.
use Rattle.psy_view.specs.Reading.{names_in}
use Rattle.psy_view.proofs.FilmingLemmas.{mismatched_by, never_unknown, never_written}
use Rattle.psy_view.proofs.filming.mismatch.Goals as goal

pub said_of-requires-clause-place : goal.said_of-requires-clause-place
said_of-requires-clause-place g c = λ place is. absurd (never_unknown _ _ _ _ _ c.in-Err.fault c.in-Err.ensures.cause place is)

pub said_of-requires-clause-written : goal.said_of-requires-clause-written
said_of-requires-clause-written g c = never_written _ _ _ _ _ c.in-Err.fault c.in-Err.ensures.cause

pub returns-in_ok-said_of-in-Err-clause-film : goal.returns-in_ok-said_of-in-Err-clause-film
returns-in_ok-said_of-in-Err-clause-film g c =
    mismatched_by _ _ _ _ _ _ c.args.selection.window (names_in c.args.selection) c.in-Err.fault c.in-Err.ensures.cause _ _ c.in_ok-said_of-in-Err.ensures
