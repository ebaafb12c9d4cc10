-- What each loop of `sought::first_sought` keeps.
use Rattle.std.proofs.Common.{◌≡◌, drop}
use Rattle.psy_assert.specs.Spans.{first_date, last_date}
use Rattle.psy_assert.specs.Verdicts.{first_by}
use Rattle.psy_assert.proofs.sought.first_sought.Given as goal

-- None of the notes so far is sought
abbrev pub invariant-loop-note : goal.invariant-loop-note
invariant-loop-note l =
    let from = first_date l.assertion.span in
    let to = last_date l.assertion.span in
    first_by l.assertion.claim from to (drop l.note-index l.notes) ≡ first_by l.assertion.claim from to l.notes
