-- What is left of the proof of `laws::many_bytes`.
use Rattle.std.proofs.Common.{arith, ap, length, length-append}
use Rattle.psy_notes.specs.Stands.{run_begins}
use Rattle.psy_notes.specs.Texts.{text_of}
use Rattle.psy_passes.proofs.laws.many_bytes.Goals as goal

pub returns : goal.returns
returns c = λ text many.
    let few = c.few_notes.ensures run_begins many.last many.notes many.leads in
    omega (arith, few, many.count, ap length many.cut, length-append (text_of many.notes) many.rest)
