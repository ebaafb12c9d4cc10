-- What is left of the proof of `filming::pictured_with`.
use Rattle.std.proofs.Common.{[], ◌∷◌, refl}
use Rattle.psy_view.specs.Asked.{by_hand}
use Rattle.psy_view.specs.Fetching.{behind, first}
use Rattle.psy_view.specs.declared.fetching.FetchedRun.TheVariants as run
use Rattle.psy_view.proofs.FilmingLemmas.{come_behind, file_unread, long_so, no_fault, run_unread, viewed_so}
use Rattle.psy_view.proofs.filming.pictured_with.Goals as goal

pub returns-in-Unread-clause-replies : goal.returns-in-Unread-clause-replies
returns-in-Unread-clause-replies g c =
    run_unread _ _ _ _ c.args.names.log.now (first _ _) c.in-Unread.said (rw c.in-Unread.is at c.in_ok-fetched.ensures.fetched)

pub returns-in-Unread-also-clause-replies : goal.returns-in-Unread-also-clause-replies
returns-in-Unread-also-clause-replies g c =
    let name = c.args.names.log.now in
    let program = by_hand c.args.names.program.now in
    let inputs = by_hand c.args.names.inputs.now in
    let came = run.Read c.in-Read.run' in
    let read = rw c.in-Read.is at c.in_ok-fetched.ensures.fetched in
    let count = no_fault _ _ _ name came read tt in
    let unread = rw (c.fetch_run.ensures.shelf.1, count) at (rw c.in-Unread-also.is at c.in_ok-also.ensures.fetched) in
    file_unread _ _ _ _ program (come_behind _ _ _ name came read tt (program ∷ inputs ∷ []) program (first _ (inputs ∷ []))) refl _ _ unread

pub returns-in-Unread-last-clause-replies : goal.returns-in-Unread-last-clause-replies
returns-in-Unread-last-clause-replies g c =
    let name = c.args.names.log.now in
    let program = by_hand c.args.names.program.now in
    let inputs = by_hand c.args.names.inputs.now in
    let came = run.Read c.in-Read.run' in
    let read = rw c.in-Read.is at c.in_ok-fetched.ensures.fetched in
    let count = no_fault _ _ _ name came read tt in
    let files = c.fetch_run.ensures.shelf.1 in
    let also = rw (files, count) at (rw c.in-Text.is at c.in_ok-also.ensures.fetched) in
    let unread = rw (c.fetch.ensures.shelf.1, files, also.1) at (rw c.in-Unread-last.is at c.in_ok-last.ensures.fetched) in
    file_unread _ _ _ _ inputs
    (come_behind _ _ _ name came read tt (program ∷ inputs ∷ []) inputs (behind _ _ (inputs ∷ []) inputs also.0 (first _ []))) refl _ _ unread

pub returns-in-Some-clause-replies : goal.returns-in-Some-clause-replies
returns-in-Some-clause-replies g c =
    let is = rw c.in-Some.is at (rw c.in-Read.is at c.in_ok-fetched.ensures.fetched) in
    let files = c.fetch_run.ensures.shelf.1 in
    let also = rw files at (rw c.in-Text.is at c.in_ok-also.ensures.fetched) in
    let last = rw (c.fetch.ensures.shelf.1, files) at (rw c.in-Text-last.is at c.in_ok-last.ensures.fetched) in
    viewed_so _ _ _ _ (c.in-Some.bytes.items ∷ c.in-Text.text.items ∷ c.in-Text-last.fed.items ∷ []) (is.0, (also.0, (last.0, tt))) c.drawn_with.result
    (rw (c.as_slice.ensures.value, c.as_slice-in-Some.ensures.value, c.as_slice-in-Some-2.ensures.value) at c.drawn_with.ensures)

pub returns-clause-replies : goal.returns-clause-replies
returns-clause-replies g c =
    let is = rw c.in-None.is at (rw c.in-Read.is at c.in_ok-fetched.ensures.fetched) in
    let files = c.fetch_run.ensures.shelf.1 in
    let also = rw (files, is.1) at (rw c.in-Text.is at c.in_ok-also.ensures.fetched) in
    let last = rw (c.fetch.ensures.shelf.1, files, also.1) at (rw c.in-Text-last.is at c.in_ok-last.ensures.fetched) in
    long_so _ _ _ _ c.args.names.log.now (by_hand c.args.names.program.now ∷ by_hand c.args.names.inputs.now ∷ [])
    (c.in-Text.text.items ∷ c.in-Text-last.fed.items ∷ []) refl is.0 (also.0, (last.0, tt)) c.filmed_with.result
    (rw (c.as_slice-in-None.ensures.value, c.as_slice-in-None-2.ensures.value, c.fetch-2.ensures.shelf.1, c.fetch.ensures.shelf.1, files, last.1)
    at c.filmed_with.ensures.told)
