-- What is left of the proof of `words::of_report`.
use Rattle.std.proofs.Common.{refl}
use Rattle.psy_view.specs.Asked.{asks_report}
use Rattle.psy_view.proofs.words.of_report.Goals as goal

pub returns : goal.returns
returns c = asks_report c.args.name.now c.args.until.now c.in_ok-until.until refl (rw c.as_bytes.ensures.value at c.in_ok-until.ensures)
