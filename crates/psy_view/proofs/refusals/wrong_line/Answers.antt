-- What is left of the proof of `refusals::wrong_line`.
use Rattle.std.proofs.lemmas.List.{append_assoc}
use Rattle.psy_view.proofs.refusals.wrong_line.Goals as goal

pub returns : goal.returns
returns c = rw (← c.format.ensures.text, ← c.as_bytes-line.ensures.value, ← c.in_ok-name.ensures, ← c.as_slice.ensures.value, ← c.slip_text.ensures) (simp append_assoc c.joined.ensures)
