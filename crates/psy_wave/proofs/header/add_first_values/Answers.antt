-- What is left of the proof of `header::add_first_values`.
use Rattle.std.proofs.lemmas.List.{append_assoc}
use Rattle.psy_wave.proofs.header.add_first_values.Goals as goal

pub returns : goal.returns
returns c =
    rw (
      c.in_ok-extend_from_slice-2.ensures.items,
      c.in_ok-add_values-3.ensures,
      c.in_ok-add_values-2.ensures,
      c.in_ok-add_values.ensures,
      c.len.ensures,
      c.len-2.ensures,
      c.len-3.ensures,
      c.in_ok-extend_from_slice.ensures.items,
    ) (simp append_assoc)
