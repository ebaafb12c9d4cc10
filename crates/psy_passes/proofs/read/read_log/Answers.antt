-- What is left of the proof of `read::read_log`.
use Rattle.std.proofs.Common.{◌+◌, option_map, sym, ap, Some, ◌∙◌}
use Rattle.psy_passes.specs.declared.read.Log.{Log}
use Rattle.psy_passes.proofs.SummaryNames.{line_is, unlisted_at}
use Rattle.psy_passes.proofs.read.read_log.Goals as goal

pub returns-in-Some-clause-unlisted : goal.returns-in-Some-clause-unlisted
returns-in-Some-clause-unlisted c = λ line e.
    let lists = c.in_ok-listed.ensures in
    let found = unlisted_at c.in_ok-listed.listed c.as_slice.result.now c.as_slice-2.result.now c.in-Ok.notes.items c.as_slice.ensures.value c.as_slice-2.ensures.value
    lists.agents lists.variables lists.streams c.first_unlisted.result c.first_unlisted.ensures in
    (c.in-Ok.notes.items, c.in-Ok.ensures.notes, sym found ∙ ap (option_map (λ k. k + 1)) c.in-Some.is ∙ ap Some (line_is {T = Log} (c.in-Some.place + 1) line e))

pub returns-clause-notes : goal.returns-clause-notes
returns-clause-notes c =
    let lists = c.in_ok-listed.ensures in
    let found = unlisted_at c.in_ok-listed.listed c.as_slice.result.now c.as_slice-2.result.now c.in-Ok.notes.items c.as_slice.ensures.value c.as_slice-2.ensures.value
    lists.agents lists.variables lists.streams c.first_unlisted.result c.first_unlisted.ensures in
    record { lines = c.in-Ok.ensures.notes; listed = sym found ∙ ap (option_map (λ k. k + 1)) c.in-None.is }
