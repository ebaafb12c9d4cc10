-- What is left of the proof of `refusals::more_line`.
use Rattle.std.proofs.lemmas.List.{append_assoc}
use Rattle.psy_export.proofs.refusals.more_line.Goals as goal

pub returns : goal.returns
returns c = rw (← c.format.ensures.text, ← c.as_bytes-most.ensures.value, ← c.in_ok-name.ensures, ← c.as_slice.ensures.value) (simp append_assoc c.joined.ensures)
