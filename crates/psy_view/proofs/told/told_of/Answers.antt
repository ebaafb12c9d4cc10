-- What is left of the proof of `told::told_of`.
use Rattle.psy_view.specs.Views.{explained}
use Rattle.psy_view.proofs.told.told_of.Goals as goal

pub returns-in_ok-behind-in-Ok : goal.returns-in_ok-behind-in-Ok
returns-in_ok-behind-in-Ok c =
    rw (c.in_ok-behind-in-Ok.ensures, c.as_slice.ensures.value)
    (explained _ _ (rw c.as_bytes.ensures.value at c.in-Ok.ensures.explains) c.in_ok-asked_for-in-Ok.ensures)
