-- What is left of the proof of `text::diff`.
use Rattle.psy_differ.proofs.Lines.{log_fits, same_logs}
use Rattle.psy_differ.proofs.text.diff.Goals as goal

pub first_difference-requires-clause-first : goal.first_difference-requires-clause-first
first_difference-requires-clause-first c = log_fits _ c.in-Ok.notes.items _ c.as_slice.ensures.value c.in-Ok.ensures.notes

pub first_difference-requires-clause-second : goal.first_difference-requires-clause-second
first_difference-requires-clause-second c = log_fits _ c.in-Ok-read_run.notes.items _ c.as_slice-2.ensures.value c.in-Ok-read_run.ensures.notes

pub difference_text-requires-clause-first : goal.difference_text-requires-clause-first
difference_text-requires-clause-first c = log_fits _ c.in-Ok.notes.items _ c.as_slice-in-Some.ensures.value c.in-Ok.ensures.notes

pub difference_text-requires-clause-second : goal.difference_text-requires-clause-second
difference_text-requires-clause-second c = log_fits _ c.in-Ok-read_run.notes.items _ c.as_slice-in-Some-2.ensures.value c.in-Ok-read_run.ensures.notes

pub returns-clause-same : goal.returns-clause-same
returns-clause-same c = λ _.
    same_logs _ _ c.in-Ok.notes.items c.in-Ok-read_run.notes.items _ _ c.as_slice.ensures.value c.as_slice-2.ensures.value c.in-Ok.ensures.notes
    c.in-Ok-read_run.ensures.notes (c.first_difference.ensures.none c.in-None.is)
