-- What is left of the proof of `filming::pictured`.
use Rattle.std.proofs.Common.{[], ◌∷◌, refl}
use Rattle.psy_view.specs.Fetching.{first}
use Rattle.psy_view.proofs.FilmingLemmas.{drawn_view, long_so, run_unread, viewed_so}
use Rattle.psy_view.proofs.PlanLemmas.{shown_as}
use Rattle.psy_view.proofs.filming.pictured.Goals as goal

pub returns-in-Unread-clause-replies : goal.returns-in-Unread-clause-replies
returns-in-Unread-clause-replies g c =
    run_unread _ _ _ _ c.args.name.now (first _ []) c.in-Unread.said (rw c.in-Unread.is at c.in_ok-fetched.ensures.fetched)

pub returns-in-Some-clause-replies : goal.returns-in-Some-clause-replies
returns-in-Some-clause-replies g c =
    let is = rw c.in-Some.is at (rw c.in-Read.is at c.in_ok-fetched.ensures.fetched) in
    viewed_so _ _ _ _ (c.in-Some.bytes.items ∷ []) (is.0, tt) c.drawn.result
    (shown_as _ _ c.drawn.result (rw c.as_slice.ensures.value at c.drawn.ensures) (drawn_view c.args.name.now c.in-Some.bytes.items _ _))

pub returns-in-None-clause-replies : goal.returns-in-None-clause-replies
returns-in-None-clause-replies g c =
    let is = rw c.in-None.is at (rw c.in-Read.is at c.in_ok-fetched.ensures.fetched) in
    long_so _ _ _ _ c.args.name.now [] [] refl is.0 tt c.filmed.result
    (rw (c.fetch_run.ensures.shelf.1, is.1) at c.filmed.ensures.told)
