-- What is left of the proof of `header::add_scope`.
use Rattle.std.proofs.lemmas.List.{append_assoc}
use Rattle.psy_wave.specs.Heads.{scope}
use Rattle.psy_wave.proofs.header.add_scope.Goals as goal

pub returns : goal.returns
unfolding scope
returns c =
    rw (
      c.in_ok-extend_from_slice-4.ensures.items,
      c.in_ok-add_declarations.ensures,
      c.in_ok-extend_from_slice-3.ensures.items,
      c.in_ok-extend_from_slice-2.ensures.items,
      c.in_ok-extend_from_slice.ensures.items,
    ) (simp append_assoc)
