-- What is left of the proof of `export::exported`.
use Rattle.std.proofs.Common.{◌≤◌, length, arith}
use Rattle.psy_view.specs.Outcome.{of_text}
use Rattle.psy_view.specs.declared.asked.TheConstants.{TEXT_BYTES}
use Rattle.psy_view.proofs.export.exported.Goals as goal

pub returns-in-Ok-exported_text-clause-ends : goal.returns-in-Ok-exported_text-clause-ends
returns-in-Ok-exported_text-clause-ends g c =
    let small : length c.in-Ok.bytes.items ≤ TEXT_BYTES = omega (arith, c.in-Ok.bytes.ok, c.in-Ok.ensures.within) in
    of_text c.in-Ok.bytes.items _ _ (c.in-Ok.ensures.whole, small) (rw c.as_slice.ensures.value at c.in-Ok-exported_text.ensures) (rw c.as_slice-in-Ok-exported_text.ensures.value at c.say.ensures.said)
