-- What is left of the proof of `breach::add_stop`.
use Rattle.std.proofs.lemmas.List.{append_assoc}
use Rattle.psy_claims.proofs.breach.add_stop.Goals as goal

pub returns : goal.returns
returns c = rw (← c.format.ensures.text, ← c.as_bytes-date.ensures.value) (simp append_assoc c.add_pieces.ensures)
