-- What is left of the proof of `view::dotted`.
use Rattle.psy_view.specs.Views.{dotted}
use Rattle.psy_view.proofs.view.dotted.Goals as goal

pub returns-in_ok-dot-in-Ok : goal.returns-in_ok-dot-in-Ok
returns-in_ok-dot-in-Ok c = rw (c.in_ok-dot-in-Ok.ensures, c.as_slice.ensures.value) (dotted _ _ _ c.in-Ok.ensures.notes)
