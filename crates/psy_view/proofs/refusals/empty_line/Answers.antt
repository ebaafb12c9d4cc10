-- What is left of the proof of `refusals::empty_line`.
use Rattle.std.proofs.lemmas.List.{append_assoc}
use Rattle.psy_view.proofs.refusals.empty_line.Goals as goal

pub returns : goal.returns
returns c = rw (← c.format.ensures.text, ← c.as_bytes-from.ensures.value, ← c.format-2.ensures.text, ← c.as_bytes-to.ensures.value, ← c.in_ok-name.ensures, ← c.as_slice.ensures.value)
    (simp append_assoc c.joined.ensures)
