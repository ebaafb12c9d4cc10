-- What is left of the proof of `filming::pictured_of`.
use Rattle.std.proofs.Common.{[], ◌∷◌, refl}
use Rattle.psy_view.specs.Asked.{by_hand}
use Rattle.psy_view.specs.Fetching.{first}
use Rattle.psy_view.specs.declared.fetching.FetchedRun.TheVariants as run
use Rattle.psy_view.proofs.FilmingLemmas.{come_behind, file_unread, long_so, no_fault, run_unread, viewed_so}
use Rattle.psy_view.proofs.filming.pictured_of.Goals as goal

pub returns-in-Unread-clause-replies : goal.returns-in-Unread-clause-replies
returns-in-Unread-clause-replies g c =
    run_unread _ _ _ _ c.args.name.now (first _ _) c.in-Unread.said (rw c.in-Unread.is at c.in_ok-fetched.ensures.fetched)

pub returns-in-Unread-also-clause-replies : goal.returns-in-Unread-also-clause-replies
returns-in-Unread-also-clause-replies g c =
    let name = c.args.name.now in
    let program = c.args.program.now in
    let came = run.Read c.in-Read.run' in
    let read = rw c.in-Read.is at c.in_ok-fetched.ensures.fetched in
    let count = no_fault _ _ _ name came read tt in
    let unread = rw (c.fetch_run.ensures.shelf.1, count) at (rw c.in-Unread-also.is at c.in_ok-also.ensures.fetched) in
    file_unread _ _ _ _ (by_hand program) (come_behind _ _ _ name came read tt (by_hand program ∷ []) (by_hand program) (first _ [])) refl _ _ unread

pub returns-in-Some-clause-replies : goal.returns-in-Some-clause-replies
returns-in-Some-clause-replies g c =
    let is = rw c.in-Some.is at (rw c.in-Read.is at c.in_ok-fetched.ensures.fetched) in
    let also = rw c.fetch_run.ensures.shelf.1 at (rw c.in-Text.is at c.in_ok-also.ensures.fetched) in
    viewed_so _ _ _ _ (c.in-Some.bytes.items ∷ c.in-Text.text.items ∷ []) (is.0, (also.0, tt)) c.drawn_of.result
    (rw (c.as_slice.ensures.value, c.as_slice-in-Some.ensures.value) at c.drawn_of.ensures)

pub returns-clause-replies : goal.returns-clause-replies
returns-clause-replies g c =
    let is = rw c.in-None.is at (rw c.in-Read.is at c.in_ok-fetched.ensures.fetched) in
    let files = c.fetch_run.ensures.shelf.1 in
    let also = rw (files, is.1) at (rw c.in-Text.is at c.in_ok-also.ensures.fetched) in
    long_so _ _ _ _ c.args.name.now (by_hand c.args.program.now ∷ []) (c.in-Text.text.items ∷ []) refl is.0 (also.0, tt) c.filmed_of.result
    (rw (c.as_slice-in-None.ensures.value, c.fetch.ensures.shelf.1, files, also.1) at c.filmed_of.ensures.told)
